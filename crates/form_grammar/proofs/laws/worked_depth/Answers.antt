use Rattle.form_grammar.proofs.WorkedFacts.{worked_depth}
use Rattle.form_grammar.proofs.laws.worked_depth.Goals as goal

pub returns : goal.returns
returns c = worked_depth
