-- Words as values of their own.
use Rattle.std.specs.Prelude.{◌≡◌, ℕ, true, false, List, take, Some, None, Option as Maybe}
use Rattle.lexical.specs.Words.{word}
use Rattle.lexical.specs.declared.spelled.Word.{Word}

-- the bytes that a value spells
abbrev pub spelling : Word → List ℕ
spelling w = take w.len w.bytes

-- what making a word of bytes answers: a value that spells them, or none where they are no word
abbrev pub Spells : List ℕ → Maybe Word → Type 0
Spells bs (Some w) = (word bs ≡ true) × (spelling w ≡ bs)
Spells bs None = word bs ≡ false
