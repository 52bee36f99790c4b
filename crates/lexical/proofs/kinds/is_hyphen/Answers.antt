use Rattle.std.proofs.Common.{sym}
use Rattle.lexical.proofs.KindFacts as facts
use Rattle.lexical.proofs.kinds.is_hyphen.Goals as goal

pub returns-in-Hyphen : goal.returns-in-Hyphen
returns-in-Hyphen c = sym (facts.is_hyphen c.args.b c.kind_of.result c.kind_of.ensures c.in-Hyphen.is)

pub returns-in_default : goal.returns-in_default
returns-in_default c = sym (facts.no_hyphen c.args.b c.kind_of.result c.kind_of.ensures c.in_default.not-Hyphen)
