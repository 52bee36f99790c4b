use Rattle.form_grammar.proofs.TextFacts.{one_meaning}
use Rattle.form_grammar.proofs.laws.one_meaning.Goals as goal

pub returns : goal.returns
returns c = one_meaning
