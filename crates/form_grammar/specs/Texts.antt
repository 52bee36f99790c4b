-- What a text says, as a function of its bytes, which other definitions can compute with.
use Rattle.std.specs.Prelude.{ℕ, cond, List, length, None, Option as Maybe, nat_le}
use Rattle.pieces.specs.Cutting.{pieces}
use Rattle.form_grammar.specs.Grammar.{longest, Written, Rule}
use Rattle.form_grammar.specs.Parser.{rule_of_pieces, content_of}

-- the rule that a text says as a rule text
unfoldable pub rule_of : List ℕ → Maybe Rule
rule_of t = cond (nat_le (length t) longest) (rule_of_pieces (pieces t)) None

-- the content that a text says as a start text
unfoldable pub start_of : List ℕ → Maybe Written
start_of t = cond (nat_le (length t) longest) (content_of (pieces t)) None
