-- The pieces of a text as a function of it, which other definitions can compute with.
use Rattle.std.specs.Prelude.{◌≡◌, ℕ, Bool, cond, ◌↔◌, List, [], ◌∷◌, Some, None, Option as Maybe}
use Rattle.lexical.specs.declared.kinds.Kind.{Kind}
use Rattle.lexical.specs.declared.kinds.Kind.TheVariants.{Letter, Digit, Hyphen, Point, Less, Greater, Slash, Blank, Other}
use Rattle.lexical.specs.Kinds.{kind}
use Rattle.lexical.specs.Words.{continues_word}
use Rattle.lexical.specs.Numbers.{figure_kind}
use Rattle.pieces.specs.declared.run.Run.{Run}
use Rattle.pieces.specs.declared.run.Run.TheVariants.{Word, Number}
use Rattle.pieces.specs.Pieces.{Piece, sign_piece, word_piece, number_piece}
use Rattle.pieces.specs.Spelling.{Spelled}

-- whether a byte of a kind carries a run on
abbrev pub carries : Run → Kind → Bool
carries Word k = continues_word k
carries Number k = figure_kind k

abbrev pub run_piece : Run → List ℕ → Piece
run_piece Word w = word_piece w
run_piece Number w = number_piece w

-- the first bytes of a text, as far as they carry a run on
unfoldable pub front : Run → List ℕ → List ℕ
front r [] = []
front r (b ∷ s) = cond (carries r (kind b)) (b ∷ front r s) []

-- The pieces of a text by the kind of its first byte: p is the piece of that byte where it stands alone, ps are the pieces after it, and
-- y r those from it on where it begins a run.
abbrev pub by_first : Kind → Piece → List Piece → (Run → List Piece) → List Piece
by_first Letter p ps y = y Word
by_first Digit p ps y = y Number
by_first Hyphen p ps y = y Number
by_first Point p ps y = y Number
by_first Less p ps y = p ∷ ps
by_first Greater p ps y = p ∷ ps
by_first Slash p ps y = p ∷ ps
by_first Blank p ps y = ps
by_first Other p ps y = p ∷ ps

-- the pieces of a text, or, where a run has begun before it, those after the rest of the run
unfoldable pub pieces_after : Maybe Run → List ℕ → List Piece
pieces_after None [] = []
pieces_after (Some r) [] = []
pieces_after None (b ∷ s) =
    by_first (kind b) (sign_piece b) (pieces_after None s) (λ r. run_piece r (b ∷ front r s) ∷ pieces_after (Some r) s)
pieces_after (Some q) (b ∷ s) =
    cond (carries q (kind b)) (pieces_after (Some q) s)
    (by_first (kind b) (sign_piece b) (pieces_after None s) (λ r. run_piece r (b ∷ front r s) ∷ pieces_after (Some r) s))

abbrev pub pieces : List ℕ → List Piece
pieces s = pieces_after None s

-- They are those that the text is cut into, and no others. So it is cut in exactly one way.
abbrev pub PiecesRule : Type 0
PiecesRule = (t : List ℕ) (ps : List Piece) → (pieces t ≡ ps) ↔ Spelled t ps
