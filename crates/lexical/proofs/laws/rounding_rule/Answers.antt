use Rattle.lexical.proofs.RoundingFacts.{rounding_rule}
use Rattle.lexical.proofs.laws.rounding_rule.Goals as goal

pub returns : goal.returns
returns c = rounding_rule
