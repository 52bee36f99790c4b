-- The layout by places in the bytes, for what has to compute: where each name and each node starts, and whether a block is good.
-- A byte past the end reads as 0.
use Rattle.std.specs.Prelude.{ℕ, zero, suc, ◌+◌, ◌*◌, Bool, cond, ◌&&◌, List, map, length, take, drop, ℤ, Some, None, Option, ◌==◌, nat_le, nat_lt, slice_index, unsigned_abs}
use Rattle.std.specs.List.{range_with_len, list_all}
use Rattle.lexical.specs.Words.{word}
use Rattle.lexical.specs.Rounding.{hundredths}
use Rattle.records.specs.Limits.{most_nodes}
use Rattle.records.specs.Nodes.{Node, shaped}
use Rattle.blocks.specs.Layout.{most_names, node_bytes, greatest_thousandths, branch, leaf, number16, number32}

-- the two bytes at a place, as a number
abbrev pub read16 : List ℕ → ℕ → ℕ
read16 bs at = number16 (slice_index bs at) (slice_index bs (at + 1))

-- the four bytes at a place, as a signed number
abbrev pub read32 : List ℕ → ℕ → ℤ
read32 bs at = number32 (slice_index bs at) (slice_index bs (at + 1)) (slice_index bs (at + 2)) (slice_index bs (at + 3))

-- The first section has the count of names at place 0, and then each name as its length and its bytes.
abbrev pub name_count : List ℕ → ℕ
name_count bs = read16 bs 0

-- where the length of name k stands
abbrev pub name_start : List ℕ → ℕ → ℕ
name_start bs zero = 2
name_start bs (suc k) = name_start bs k + 1 + slice_index bs (name_start bs k)

-- the bytes of the name whose length stands at a place
abbrev pub name_at : List ℕ → ℕ → List ℕ
name_at bs at = take (slice_index bs at) (drop (at + 1) bs)

abbrev pub name_of : List ℕ → ℕ → List ℕ
name_of bs k = name_at bs (name_start bs k)

-- The second section follows the last name. It has the count of nodes, and then each node.
abbrev pub second_start : List ℕ → ℕ
second_start bs = name_start bs (name_count bs)

abbrev pub node_count : List ℕ → ℕ
node_count bs = read16 bs (second_start bs)

-- where node i starts
abbrev pub node_start : List ℕ → ℕ → ℕ
node_start bs i = second_start bs + 2 + node_bytes * i

-- of the node that starts at a place: the number of its name, its depth, its kind and its value
abbrev pub name_number : List ℕ → ℕ → ℕ
name_number bs at = slice_index bs at

abbrev pub node_depth : List ℕ → ℕ → ℕ
node_depth bs at = slice_index bs (at + 1)

abbrev pub node_kind : List ℕ → ℕ → ℕ
node_kind bs at = slice_index bs (at + 2)

abbrev pub node_thousandths : List ℕ → ℕ → ℤ
node_thousandths bs at = read32 bs (at + 3)

abbrev pub node_value : List ℕ → ℕ → Option ℤ
node_value bs at = cond (node_kind bs at == leaf) (Some (hundredths (node_thousandths bs at))) None

abbrev pub node_at : List ℕ → ℕ → Node
node_at bs at = record { name = name_of bs (name_number bs at); depth = node_depth bs at; value = node_value bs at }

-- the nodes that a block stands for, in order
abbrev pub block_nodes : List ℕ → List Node
block_nodes bs = map (λ i. node_at bs (node_start bs i)) (range_with_len 0 (node_count bs))

-- the place of a node is its number
abbrev pub block_places : List ℕ → List ℕ
block_places bs = range_with_len 0 (node_count bs)

-- a leaf with a value in range, or a branch with the value 0; the size of a value is the value without its sign
abbrev pub size_fits : ℕ → ℕ → Bool
size_fits kind size = cond (kind == leaf) (nat_le size greatest_thousandths) (kind == branch && size == 0)

-- the node that starts at a place has one of so many names, and its value fits
abbrev pub node_fits : List ℕ → ℕ → ℕ → Bool
node_fits bs names at = nat_lt (name_number bs at) names && size_fits (node_kind bs at) (unsigned_abs (node_thousandths bs at))

-- the first n names are words
abbrev pub all_words : List ℕ → ℕ → Bool
all_words bs n = list_all (λ k. word (name_of bs k)) (range_with_len 0 n)

-- the first n nodes fit
abbrev pub all_fit : List ℕ → ℕ → Bool
all_fit bs n = list_all (λ i. node_fits bs (name_count bs) (node_start bs i)) (range_with_len 0 n)

-- few enough names, each a word; few enough nodes, and nothing after the last; nodes that fit, in the shape of records
abbrev pub good_block : List ℕ → Bool
good_block bs =
    nat_le (name_count bs) most_names
    && (all_words bs (name_count bs)
    && (nat_le (node_count bs) most_nodes
    && (length bs == node_start bs (node_count bs)
    && (all_fit bs (node_count bs)
    && shaped 0 (block_nodes bs)))))
