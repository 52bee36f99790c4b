-- A good block stands for a record. (These proofs stand here since the record of a block gives them as terms of its code.)
use Rattle.std.specs.Prelude.{◌≡◌, ℕ, ◌≤◌, true, List, length, ◌==◌, nat_le}
use Rattle.std.proofs.Common.{sym, ◌∙◌, arith}
use Rattle.std.proofs.lemmas.List.FromFn.{length-range_with_len, length-map-range_with_len}
use Rattle.std.proofs.lemmas.Bool.{and_parts, eqb-true, leb-true}
use Rattle.records.specs.Limits.{most_nodes}
use Rattle.records.specs.Nodes.{Shape, shaped}
use Rattle.blocks.specs.Layout.{most_names}
use Rattle.blocks.specs.Places.{name_count, node_count, node_start, node_at, block_nodes, block_places, all_words, all_fit, good_block}

pub block_length : (bs : List ℕ) → length (block_nodes bs) ≡ node_count bs
block_length bs = length-map-range_with_len (λ i. node_at bs (node_start bs i)) 0 (node_count bs)

-- the parts of a good block
pub record Good (bs : List ℕ) : Type 0 where
  pub few_names : name_count bs ≤ most_names
  pub words : all_words bs (name_count bs) ≡ true
  pub few_nodes : node_count bs ≤ most_nodes
  pub whole : length bs ≡ node_start bs (node_count bs)
  pub fit : all_fit bs (node_count bs) ≡ true
  pub shape : shaped 0 (block_nodes bs) ≡ true

pub good_parts : (bs : List ℕ) → good_block bs ≡ true → Good bs
good_parts bs h =
    let names = and_parts (nat_le (name_count bs) most_names) _ h in
    let words = and_parts (all_words bs (name_count bs)) _ names.1 in
    let nodes = and_parts (nat_le (node_count bs) most_nodes) _ words.1 in
    let whole = and_parts (length bs == node_start bs (node_count bs)) _ nodes.1 in
    let fit = and_parts (all_fit bs (node_count bs)) _ whole.1 in
    record {
      few_names = leb-true (name_count bs) most_names names.0;
      words = words.0;
      few_nodes = leb-true (node_count bs) most_nodes nodes.0;
      whole = eqb-true (length bs) (node_start bs (node_count bs)) whole.0;
      fit = fit.0;
      shape = fit.1;
    }

pub block_shape : (bs : List ℕ) → good_block bs ≡ true → Shape (block_nodes bs)
block_shape bs h =
    let g = good_parts bs h in
    let n = g.few_nodes in
    let l = block_length bs in
    (omega arith, g.shape)

pub block_level : (bs : List ℕ) → length (block_places bs) ≡ length (block_nodes bs)
block_level bs = length-range_with_len 0 (node_count bs) ∙ sym (block_length bs)
