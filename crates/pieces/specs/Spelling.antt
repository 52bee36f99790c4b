-- How a text is cut into pieces. Blanks may stand anywhere between them. A letter begins a word, which goes on as long as letters,
-- digits and hyphens follow; a digit, hyphen or point begins a number, which goes on as long as such bytes follow. Any other byte is a
-- piece by itself.
use Rattle.std.specs.Prelude.{◌≡◌, ℕ, Bool, true, false, List, [], ◌∷◌, ◌++◌}
use Rattle.std.specs.List.{list_all}
use Rattle.lexical.specs.declared.kinds.Kind.{Kind}
use Rattle.lexical.specs.declared.kinds.Kind.TheVariants.{Letter, Digit, Hyphen, Point, Less, Greater, Slash, Blank, Other}
use Rattle.lexical.specs.Kinds.{kind}
use Rattle.lexical.specs.Words.{continues_word}
use Rattle.lexical.specs.Numbers.{figure_kind}
use Rattle.pieces.specs.Pieces.{Piece, sign_piece, word_piece, number_piece}

-- the kinds that stand alone
abbrev pub alone_kind : Kind → Bool
alone_kind Letter = false
alone_kind Digit = false
alone_kind Hyphen = false
alone_kind Point = false
alone_kind Less = true
alone_kind Greater = true
alone_kind Slash = true
alone_kind Blank = false
alone_kind Other = true

-- no byte of such a kind stands first
abbrev pub Past : (Kind → Bool) → List ℕ → Type 0
Past P [] = Unit {0}
Past P (b ∷ s) = P (kind b) ≡ false

pub data Spelled : List ℕ → List Piece → Type 0 where
  at_end : Spelled [] []
  a_blank : (b : ℕ) (s : List ℕ) (ps : List Piece) → kind b ≡ Blank → Spelled s ps → Spelled (b ∷ s) ps
  a_word : (b : ℕ) (w s : List ℕ) (ps : List Piece) → kind b ≡ Letter → list_all (λ c. continues_word (kind c)) w ≡ true → Past continues_word s
      → Spelled s ps → Spelled (b ∷ (w ++ s)) (word_piece (b ∷ w) ∷ ps)
  a_number : (b : ℕ) (w s : List ℕ) (ps : List Piece) → figure_kind (kind b) ≡ true → list_all (λ c. figure_kind (kind c)) w ≡ true → Past figure_kind s
      → Spelled s ps → Spelled (b ∷ (w ++ s)) (number_piece (b ∷ w) ∷ ps)
  a_sign : (b : ℕ) (s : List ℕ) (ps : List Piece) → alone_kind (kind b) ≡ true → Spelled s ps → Spelled (b ∷ s) (sign_piece b ∷ ps)
