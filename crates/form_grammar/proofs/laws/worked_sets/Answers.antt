use Rattle.form_grammar.proofs.WorkedFacts.{worked_sets}
use Rattle.form_grammar.proofs.laws.worked_sets.Goals as goal

pub returns : goal.returns
returns c = worked_sets
