-- A gate block is a record as bytes: a section of names, and a section of nodes that cite them by number. Nothing follows.
use Rattle.std.specs.Prelude.{◌≡◌, ℕ, ◌+◌, ◌*◌, ◌<◌, ◌≤◌, true, List, [], ◌∷◌, ◌++◌, length, ℤ, pos, Some, None, slice_index_or, unsigned_abs}
use Rattle.std.specs.Int.{w32}
use Rattle.std.proofs.Common.{to_z}
use Rattle.lexical.specs.Words.{word}
use Rattle.lexical.specs.Rounding.{hundredths}
use Rattle.records.specs.Nodes.{Node, Shape}

-- the most names that a block has
abbrev pub most_names : ℕ
most_names = 64

-- the bytes of a node: the number of its name, its depth, its kind, and four for its value
abbrev pub node_bytes : ℕ
node_bytes = 7

-- the greatest value in thousandths, and without its sign the least one
abbrev pub greatest_thousandths : ℕ
greatest_thousandths = 99999999

-- the kind of a branch, and of a leaf
abbrev pub branch : ℕ
branch = 0

abbrev pub leaf : ℕ
leaf = 1

-- the number that two bytes stand for, the lower first
abbrev pub number16 : ℕ → ℕ → ℕ
number16 a b = a + b * 256

-- the signed number that four bytes stand for, the lowest first (`to_z w32` reads 32 bits as a number with a sign)
abbrev pub number32 : ℕ → ℕ → ℕ → ℕ → ℤ
number32 a b c d = to_z w32 (a + b * 256 + c * 65536 + d * 16777216)

-- Names bs ws rest: the bytes bs begin with the names ws, each a length and a word, and go on with rest.
pub data Names : List ℕ → List (List ℕ) → List ℕ → Type 0 where
  no_name : (rest : List ℕ) → Names rest [] rest
  a_name : (w bs : List ℕ) (ws : List (List ℕ)) (rest : List ℕ) → word w ≡ true → Names bs ws rest → Names (length w ∷ (w ++ bs)) (w ∷ ws) rest

-- Rows ws bs ns: under the names ws, which are numbered from 0, the bytes bs are the nodes ns and nothing else.
-- A branch has the value 0; a leaf's is rounded to hundredths.
pub data Rows (ws : List (List ℕ)) : List ℕ → List Node → Type 0 where
  no_row : Rows ws [] []
  a_branch : (k depth a b c d : ℕ) (bs : List ℕ) (ns : List Node) →
      k < length ws →
      number32 a b c d ≡ pos 0 →
      Rows ws bs ns →
      Rows ws (k ∷ depth ∷ branch ∷ a ∷ b ∷ c ∷ d ∷ bs) (record { name = slice_index_or ws k []; depth = depth; value = None } ∷ ns)
  a_leaf : (k depth a b c d : ℕ) (bs : List ℕ) (ns : List Node) →
      k < length ws →
      unsigned_abs (number32 a b c d) ≤ greatest_thousandths →
      Rows ws bs ns →
      Rows ws (k ∷ depth ∷ leaf ∷ a ∷ b ∷ c ∷ d ∷ bs) (record { name = slice_index_or ws k []; depth = depth; value = Some (hundredths (number32 a b c d)) } ∷ ns)

-- Block bs ns: a count of names and the names, a count of nodes and the nodes, and these have the shape of records.
pub data Block : List ℕ → List Node → Type 0 where
  laid_out : (a b c d : ℕ) (bs rows : List ℕ) (ws : List (List ℕ)) (ns : List Node) →
      number16 a b ≡ length ws →
      length ws ≤ most_names →
      Names bs ws (c ∷ d ∷ rows) →
      number16 c d ≡ length ns →
      Rows ws rows ns →
      Shape ns →
      Block (a ∷ b ∷ bs) ns
