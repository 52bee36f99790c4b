use Rattle.lexical.proofs.NumberFacts.{number_rule}
use Rattle.lexical.proofs.laws.number_rule.Goals as goal

pub returns : goal.returns
returns c = number_rule
