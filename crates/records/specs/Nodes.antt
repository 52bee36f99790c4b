-- A record means a list of nodes in document order: each has a name, a depth, and a value if it is a leaf. This page has the nodes,
-- the shape that every record's list keeps, and what each question answers of a list.
use Rattle.std.specs.Prelude.{◌≡◌, ℕ, ◌+◌, ◌≤◌, Bool, true, ◌&&◌, List, [], ◌∷◌, length, ℤ, Some, None, Option, nat_le, nat_lt, slice_index_or, unsigned_abs}
use Rattle.std.specs.Str.{bytes_eq}
use Rattle.lexical.specs.Words.{word}
use Rattle.records.specs.Limits.{most_nodes, most_levels, greatest_value}

-- the value is in hundredths; a branch has none
pub record Node : Type 0 where
  pub name : List ℕ
  pub depth : ℕ
  pub value : Option ℤ

-- Two records tell the same nodes when names, depths and values agree, in order. Places do not count.
abbrev pub SameNodes : List Node → List Node → Type 0
SameNodes xs ys = xs ≡ ys

abbrev pub ranged : Option ℤ → Bool
ranged None = true
ranged (Some v) = nat_le (unsigned_abs v) greatest_value

-- a node by itself: its name is a word, it lies at a depth that may be, and its value is in range
abbrev pub proper : Node → Bool
proper n = word n.name && (nat_lt n.depth most_levels && ranged n.value)

-- the greatest depth that may follow a node: one more than a branch's, and a leaf's own
abbrev pub next_depth : Option ℤ → ℕ → ℕ
next_depth None d = d + 1
next_depth (Some v) d = d

-- proper nodes, the first at depth m at most, and each further one at most as deep as may follow the one before
abbrev pub shaped : ℕ → List Node → Bool
shaped m [] = true
shaped m (n ∷ ns) = nat_le n.depth m && (proper n && shaped (next_depth n.value n.depth) ns)

-- the shape of every record: few enough nodes, of which the first lies at depth 0
abbrev pub Shape : List Node → Type 0
Shape ns = (length ns ≤ most_nodes) × (shaped 0 ns ≡ true)

-- what is answered of a node that is not there
abbrev pub no_node : Node
no_node = record { name = []; depth = 0; value = None }

abbrev pub depth_at : List Node → ℕ → ℕ
depth_at ns n = (slice_index_or ns n no_node).depth

abbrev pub value_at : List Node → ℕ → Option ℤ
value_at ns n = (slice_index_or ns n no_node).value

-- whether there is a node n, and its name is w
abbrev pub named_at : List Node → ℕ → List ℕ → Bool
named_at ns n w = nat_lt n (length ns) && bytes_eq (slice_index_or ns n no_node).name w
