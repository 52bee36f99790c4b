use Rattle.std.proofs.Common.{sym}
use Rattle.lexical.proofs.KindFacts as facts
use Rattle.lexical.proofs.kinds.is_slash.Goals as goal

pub returns-in-Slash : goal.returns-in-Slash
returns-in-Slash c = sym (facts.is_slash c.args.b c.kind_of.result c.kind_of.ensures c.in-Slash.is)

pub returns-in_default : goal.returns-in_default
returns-in_default c = sym (facts.no_slash c.args.b c.kind_of.result c.kind_of.ensures c.in_default.not-Slash)
