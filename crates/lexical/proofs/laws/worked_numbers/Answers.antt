use Rattle.lexical.proofs.NumberFacts.{worked_numbers}
use Rattle.lexical.proofs.laws.worked_numbers.Goals as goal

pub returns : goal.returns
returns c = worked_numbers
