use Rattle.form_grammar.proofs.WorkedFacts.{worked_texts}
use Rattle.form_grammar.proofs.laws.worked_texts.Goals as goal

pub returns : goal.returns
returns c = worked_texts
