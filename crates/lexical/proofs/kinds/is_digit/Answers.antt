use Rattle.std.proofs.Common.{sym}
use Rattle.lexical.proofs.KindFacts as facts
use Rattle.lexical.proofs.kinds.is_digit.Goals as goal

pub returns-in-Digit : goal.returns-in-Digit
returns-in-Digit c = sym (facts.is_digit c.args.b c.kind_of.result c.kind_of.ensures c.in-Digit.is)

pub returns-in_default : goal.returns-in_default
returns-in_default c = sym (facts.no_digit c.args.b c.kind_of.result c.kind_of.ensures c.in_default.not-Digit)
