use Rattle.form_grammar.proofs.TextFacts.{texts_rule}
use Rattle.form_grammar.proofs.laws.texts_rule.Goals as goal

pub returns : goal.returns
returns c = texts_rule
