-- The parser and the grammar say the same of pieces.
use Rattle.std.proofs.Common.{◌≡◌, List, [], Some}
use Rattle.pieces.specs.Pieces.{Piece}
use Rattle.form_grammar.specs.Grammar.{Written, Says, Rule, Ruled}
use Rattle.form_grammar.specs.Parser.{content_of, rule_of_pieces}
use Rattle.form_grammar.specs.Laws.{ParserRule}
use Rattle.form_grammar.proofs.ParserSound.{held_some, content_of_sound, rule_sound}
use Rattle.form_grammar.proofs.ParserComplete.{content_of_complete, rule_complete}

pub rule_ruled : (ps : List Piece) (r : Rule) → rule_of_pieces ps ≡ Some r → Ruled ps r
rule_ruled ps r e = held_some (Ruled ps) (rule_of_pieces ps) r (rule_sound ps) e

pub content_said : (ps : List Piece) (e : Written) → content_of ps ≡ Some e → Says ps e []
content_said ps e h = held_some (λ e. Says ps e []) (content_of ps) e (content_of_sound ps) h

pub parser_rule : ParserRule
parser_rule = (λ ps r. (rule_ruled ps r, λ x. rule_complete x), λ ps e. (content_said ps e, λ x. content_of_complete x))
