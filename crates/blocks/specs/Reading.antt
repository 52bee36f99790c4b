-- What the functions that read a block tell one another.
use Rattle.std.specs.Prelude.{◌≡◌, ℕ, ◌+◌, ◌*◌, ◌<◌, ◌≤◌, Bool, true, cond, ◌&&◌, List, [], ◌∷◌, length, ℤ, Some, None, Option, ◌==◌, nat_le, nat_lt, slice_index, slice_index_or, unsigned_abs}
use Rattle.lexical.specs.Rounding.{hundredths}
use Rattle.records.specs.Limits.{most_levels}
use Rattle.records.specs.Nodes.{no_node, next_depth, depth_at, value_at}
use Rattle.blocks.specs.Layout.{leaf, number32}
use Rattle.blocks.specs.Places.{name_count, name_start, name_of, name_number, node_depth, node_kind, node_thousandths, node_value, node_fits, size_fits, block_nodes, all_words}
use Rattle.blocks.specs.declared.row.Row.{Row}

-- the names of a block that are words, with a table of where they start, and where they end
pub record Named (bs starts : List ℕ) (end : ℕ) : Type 0 where
  pub words : all_words bs (length starts) ≡ true
  pub table : (k : ℕ) → k < length starts → slice_index starts k ≡ name_start bs k
  pub ends : end ≡ name_start bs (length starts)
  pub near : end ≤ 2 + 256 * length starts

-- a node by its parts, where its value fits its kind
abbrev pub row_from : ℕ → ℕ → ℕ → ℤ → Option Row
row_from name depth kind thousandths =
    cond (size_fits kind (unsigned_abs thousandths)) (Some (record { name = name; depth = depth; value = cond (kind == leaf) (Some (hundredths thousandths)) None })) None

-- the node that bytes begin with
abbrev pub row_of : List ℕ → Option Row
row_of (name ∷ (depth ∷ (kind ∷ (a ∷ (b ∷ (c ∷ (d ∷ bs))))))) = row_from name depth kind (number32 a b c d)
row_of _ = None

-- the node that starts at a place
abbrev pub row_at : List ℕ → ℕ → Option Row
row_at bs at = row_from (name_number bs at) (node_depth bs at) (node_kind bs at) (node_thousandths bs at)

-- the greatest depth that may follow a node that has one of so many names and lies at depth m at most; else none
abbrev pub room_of : ℕ → ℕ → Row → Option ℕ
room_of names m row = cond (nat_lt row.name names && (nat_le row.depth m && nat_lt row.depth most_levels)) (Some (next_depth row.value row.depth)) None

-- the node at a place fits, and lies at depth m at most
abbrev pub follows : List ℕ → ℕ → ℕ → Bool
follows bs at m = node_fits bs (name_count bs) at && (nat_le (node_depth bs at) m && nat_lt (node_depth bs at) most_levels)

-- the greatest depth that may follow it, where it does; else none
abbrev pub room_after : List ℕ → ℕ → ℕ → Option ℕ
room_after bs at m = cond (follows bs at m) (Some (next_depth (node_value bs at) (node_depth bs at))) None

-- node n, from which each question is answered
pub record Found (bs : List ℕ) (n : ℕ) (row : Row) : Type 0 where
  pub depth : row.depth ≡ depth_at (block_nodes bs) n
  pub value : row.value ≡ value_at (block_nodes bs) n
  pub name : name_of bs row.name ≡ (slice_index_or (block_nodes bs) n no_node).name
  pub known : row.name < name_count bs

-- there is no node n, and each question is answered so
pub record Missing (bs : List ℕ) (n : ℕ) : Type 0 where
  pub depth : 0 ≡ depth_at (block_nodes bs) n
  pub value : None ≡ value_at (block_nodes bs) n
  pub name : [] ≡ (slice_index_or (block_nodes bs) n no_node).name
