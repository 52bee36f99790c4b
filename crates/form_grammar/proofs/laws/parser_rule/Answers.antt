use Rattle.form_grammar.proofs.ParserFacts.{parser_rule}
use Rattle.form_grammar.proofs.laws.parser_rule.Goals as goal

pub returns : goal.returns
returns c = parser_rule
