use Rattle.std.proofs.Common.{sym}
use Rattle.lexical.proofs.KindFacts as facts
use Rattle.lexical.proofs.kinds.is_point.Goals as goal

pub returns-in-Point : goal.returns-in-Point
returns-in-Point c = sym (facts.is_point c.args.b c.kind_of.result c.kind_of.ensures c.in-Point.is)

pub returns-in_default : goal.returns-in_default
returns-in_default c = sym (facts.no_point c.args.b c.kind_of.result c.kind_of.ensures c.in_default.not-Point)
