use Rattle.std.proofs.Common.{sym}
use Rattle.lexical.proofs.KindFacts as facts
use Rattle.lexical.proofs.kinds.is_greater.Goals as goal

pub returns-in-Greater : goal.returns-in-Greater
returns-in-Greater c = sym (facts.is_greater c.args.b c.kind_of.result c.kind_of.ensures c.in-Greater.is)

pub returns-in_default : goal.returns-in_default
returns-in_default c = sym (facts.no_greater c.args.b c.kind_of.result c.kind_of.ensures c.in_default.not-Greater)
