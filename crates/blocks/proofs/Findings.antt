-- What is answered of a node that is there, and of one that is not.
use Rattle.std.proofs.Common.{◌≡◌, ℕ, ◌<◌, ◌≤◌, Bool, true, cond, ltb, List, length, get_or, Some, None, sym, ap, ◌∙◌, arith}
use Rattle.std.proofs.lemmas.List.FromFn.{get_or-range_with_len, get_or-map-range_with_len, length-range_with_len}
use Rattle.std.proofs.lemmas.List.{get_or_past}
use Rattle.std.proofs.lemmas.Bool.{and_parts, ltb-true}
use Rattle.records.specs.Nodes.{Node, no_node}
use Rattle.blocks.specs.Places.{block_nodes, block_places, good_block, name_count, name_number, node_at, node_count, node_depth, node_fits, node_start, node_value}
use Rattle.blocks.specs.Reading.{Found, Missing, row_at}
use Rattle.blocks.specs.declared.row.Row.{Row}
use Rattle.blocks.specs.Shaping.{good_parts, block_length}
use Rattle.blocks.proofs.Alls.{all_at}

module _ (bs : List ℕ) (n : ℕ) where
  -- the row of a node that is there and fits
  abbrev row : Row
  row = let at = node_start bs n in record { name = name_number bs at; depth = node_depth bs at; value = node_value bs at }

  pub found : good_block bs ≡ true → n < node_count bs → (row_at bs (node_start bs n) ≡ Some row) × Found bs n row
  found good there =
      let at = node_start bs n in
      let l = block_length bs in
      let is : get_or (block_nodes bs) n no_node ≡ node_at bs (node_start bs n) = get_or-map-range_with_len (λ i. node_at bs (node_start bs i)) 0 (node_count bs) n n no_node there (omega arith) in
      let fit : node_fits bs (name_count bs) (node_start bs n) ≡ true =
      all_at (λ i. node_fits bs (name_count bs) (node_start bs i)) 0 (node_count bs) n (good_parts bs good).fit (omega arith) (omega arith) in
      let both = and_parts (ltb (name_number bs at) (name_count bs)) _ fit in (
        ap (λ (t : Bool). cond t (Some row) None) both.1,
        record {
          depth = ap (λ (m : Node). m.depth) (sym is);
          value = ap (λ (m : Node). m.value) (sym is);
          name = ap (λ (m : Node). m.name) (sym is);
          known = ltb-true (name_number bs (node_start bs n)) (name_count bs) both.0;
        },
      )

  pub missing : node_count bs ≤ n → Missing bs n
  missing m =
      let l = block_length bs in
      let h : length (block_nodes bs) ≤ n = omega arith in
      let is : get_or (block_nodes bs) n no_node ≡ no_node = get_or_past (block_nodes bs) n no_node h in
      record {
        depth = ap (λ (m : Node). m.depth) (sym is);
        value = ap (λ (m : Node). m.value) (sym is);
        name = ap (λ (m : Node). m.name) (sym is);
      }

  -- the place of node n, where there are so many nodes
  module _ {k : ℕ} (count : k ≡ length (block_nodes bs)) where
    pub place_here : n < k → n ≡ get_or (block_places bs) n 0
    place_here l = let e = block_length bs in sym (get_or-range_with_len 0 (node_count bs) n 0 (omega arith) ∙ omega arith)

    pub place_past : k ≤ n → 0 ≡ get_or (block_places bs) n 0
    place_past l =
        let e = block_length bs in
        let places = length-range_with_len 0 (node_count bs) in
        sym (get_or_past (block_places bs) n 0 (omega arith))
