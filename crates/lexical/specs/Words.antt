-- A word is a letter followed by letters, digits or hyphens, 1 to 16 bytes in all. The names of nodes are words.
use Rattle.std.specs.Prelude.{ℕ, Bool, true, false, ◌&&◌, List, [], ◌∷◌, length, nat_le}
use Rattle.std.specs.List.{list_all}
use Rattle.lexical.specs.declared.kinds.Kind.{Kind}
use Rattle.lexical.specs.declared.kinds.Kind.TheVariants.{Letter, Digit, Hyphen, Point, Less, Greater, Slash, Blank, Other}
use Rattle.lexical.specs.Kinds.{kind}

-- the most bytes that a word has
abbrev pub longest_word : ℕ
longest_word = 16

abbrev pub begins_word : Kind → Bool
begins_word Letter = true
begins_word Digit = false
begins_word Hyphen = false
begins_word Point = false
begins_word Less = false
begins_word Greater = false
begins_word Slash = false
begins_word Blank = false
begins_word Other = false

abbrev pub continues_word : Kind → Bool
continues_word Letter = true
continues_word Digit = true
continues_word Hyphen = true
continues_word Point = false
continues_word Less = false
continues_word Greater = false
continues_word Slash = false
continues_word Blank = false
continues_word Other = false

-- a letter, and then letters, digits and hyphens
unfoldable pub spelled : List ℕ → Bool
spelled [] = false
spelled (b ∷ bs) = begins_word (kind b) && list_all (λ c. continues_word (kind c)) bs

abbrev pub word : List ℕ → Bool
word bs = nat_le (length bs) longest_word && spelled bs
