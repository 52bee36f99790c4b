-- The names that stand at places of a text: behind the byte at a place, as many bytes as may belong to a word.
use Rattle.std.specs.Prelude.{ℕ, ◌+◌, cond, List, [], ◌∷◌, drop}
use Rattle.lexical.specs.Kinds.{kind}
use Rattle.lexical.specs.Words.{continues_word}

abbrev pub word_front : List ℕ → List ℕ
word_front [] = []
word_front (b ∷ bs) = cond (continues_word (kind b)) (b ∷ word_front bs) []

abbrev pub text_name : List ℕ → ℕ → List ℕ
text_name t p = word_front (drop (p + 1) t)
