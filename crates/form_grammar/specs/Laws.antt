-- The laws of rule texts and start texts, each held by the contract of a function of its own.
use Rattle.std.specs.Prelude.{◌≡◌, ℕ, ◌↔◌, List, [], Some}
use Rattle.pieces.specs.Pieces.{Piece}
use Rattle.form_grammar.specs.Grammar.{Written, Says, Rule, Ruled, RuleText, StartText}
use Rattle.form_grammar.specs.Parser.{content_of, rule_of_pieces}
use Rattle.form_grammar.specs.Texts.{rule_of, start_of}

-- over pieces: what the functions give is what the grammar says, and all of it
abbrev pub ParserRule : Type 0
ParserRule =
    ((ps : List Piece) (r : Rule) → (rule_of_pieces ps ≡ Some r) ↔ Ruled ps r)
    × ((ps : List Piece) (e : Written) → (content_of ps ≡ Some e) ↔ Says ps e [])

-- over bytes
abbrev pub TextsRule : Type 0
TextsRule =
    ((t : List ℕ) (r : Rule) → (rule_of t ≡ Some r) ↔ RuleText t r)
    × ((t : List ℕ) (e : Written) → (start_of t ≡ Some e) ↔ StartText t e)

-- a rule text says at most one rule, and a start text at most one content
abbrev pub OneMeaning : Type 0
OneMeaning =
    ((t : List ℕ) (r r' : Rule) → RuleText t r → RuleText t r' → r ≡ r')
    × ((t : List ℕ) (e e' : Written) → StartText t e → StartText t e' → e ≡ e')
