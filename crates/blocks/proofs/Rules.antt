-- The layout, and what is computed by places, are the same.
use Rattle.std.proofs.Common.{◌≡◌, ℕ, ◌+◌, ◌-◌, ◌<◌, true, eqb, leb, List, [], ◌∷◌, map, length, get_or, drop, sym, refl, ap, ◌∙◌, subst, arith, length-drop}
use Rattle.std.specs.List.{range_with_len}
use Rattle.std.proofs.lemmas.List.FromFn.{get_or-map-range_with_len, length-map-range_with_len}
use Rattle.std.proofs.lemmas.List.{drop_more}
use Rattle.std.proofs.lemmas.Bool.{and_from, eq-eqb, le-leb}
use Rattle.records.specs.Limits.{most_nodes}
use Rattle.records.specs.Nodes.{Node, shaped}
use Rattle.blocks.specs.Layout.{most_names, Names, Rows, Block, laid_out}
use Rattle.blocks.specs.Places.{name_count, name_of, second_start, node_count, node_start, node_at, block_nodes, all_words, all_fit, good_block}
use Rattle.blocks.specs.Laws.{BlockRule}
use Rattle.blocks.specs.Shaping.{Good, good_parts, block_length, block_shape}
use Rattle.blocks.proofs.Derived.{byte_at, rest_at, names_read, rows_tell}
use Rattle.blocks.proofs.Deriving.{names_derive, rows_derive}

good_from : (bs : List ℕ) → Good bs → good_block bs ≡ true
good_from bs g =
    and_from (leb (name_count bs) most_names) _ (le-leb (name_count bs) most_names g.few_names)
    (and_from (all_words bs (name_count bs)) _ g.words
    (and_from (leb (node_count bs) most_nodes) _ (le-leb (node_count bs) most_nodes g.few_nodes)
    (and_from (eqb (length bs) (node_start bs (node_count bs))) _ (eq-eqb (length bs) (node_start bs (node_count bs)) g.whole)
    (and_from (all_fit bs (node_count bs)) _ g.fit g.shape))))

derived_good : {bs : List ℕ} {ns : List Node} → Block bs ns → (good_block bs ≡ true) × (block_nodes bs ≡ ns)
derived_good (laid_out a b c d xs rows ws ns names_counted few names nodes_counted nodes shape) =
    let bs : List ℕ = a ∷ b ∷ xs in
    let count : name_count bs ≡ length ws = names_counted in
    let read = names_read names bs 0 refl in
    let named : (j : ℕ) → j < length ws → name_of bs j ≡ get_or ws j [] = λ j l. read.named j j (omega arith) l in
    let second : drop (second_start bs) bs ≡ c ∷ d ∷ rows = read.after (name_count bs) (omega arith) in
    let n₀ = byte_at bs (second_start bs) (c ∷ d ∷ rows) second 0 (second_start bs) (omega arith) in
    let n₁ = byte_at bs (second_start bs) (c ∷ d ∷ rows) second 1 (second_start bs + 1) refl in
    let counted : node_count bs ≡ length ns = omega arith in
    let first : drop (node_start bs 0) bs ≡ rows = rest_at bs (second_start bs) (c ∷ d ∷ rows) second 2 (node_start bs 0) (omega arith) in
    let tells = rows_tell bs ws count named nodes 0 first in
    let size = tells.size in
    let long : length bs - second_start bs ≡ 2 + length rows = sym (length-drop (second_start bs) bs) ∙ ap length second ∙ omega arith in
    let is : block_nodes bs ≡ ns = ap {B = List Node} (λ (n : ℕ). map (λ j. node_at bs (node_start bs j)) (range_with_len 0 n)) counted ∙ tells.nodes in
    let few_nodes = shape.0 in (
      good_from bs record {
        few_names = omega arith;
        words = ap (λ (n : ℕ). all_words bs n) count ∙ read.words;
        few_nodes = omega arith;
        whole = omega arith;
        fit = ap (λ (n : ℕ). all_fit bs n) counted ∙ tells.fit;
        shape = ap (shaped 0) is ∙ shape.1;
      },
      is,
    )

good_derived : (bs : List ℕ) → good_block bs ≡ true → Block bs (block_nodes bs)
good_derived [] h = let g = (good_parts [] h).whole in absurd (omega arith)
good_derived (a ∷ []) h = let g = (good_parts (a ∷ []) h).whole in absurd (omega arith)
good_derived (a ∷ (b ∷ xs)) h =
    let bs : List ℕ = a ∷ (b ∷ xs) in
    let g = good_parts bs h in
    let whole = g.whole in
    let s = second_start bs in
    let ws = map (name_of bs) (range_with_len 0 (name_count bs)) in
    let count : length ws ≡ name_count bs = length-map-range_with_len (name_of bs) 0 (name_count bs) in
    let named : (j : ℕ) → j < length ws → name_of bs j ≡ get_or ws j [] = λ j l. sym (get_or-map-range_with_len (name_of bs) 0 (name_count bs) j j [] (omega arith) (omega arith)) in
    let rest : drop s bs ≡ get_or bs s 0 ∷ get_or bs (s + 1) 0 ∷ drop (s + 1 + 1) bs =
    drop_more bs s 0 (omega arith) ∙ ap {B = List ℕ} (λ (l : List ℕ). get_or bs s 0 ∷ l) (drop_more bs (s + 1) 0 (omega arith)) in
    let names : Names xs ws (drop s bs) = names_derive bs (name_count bs) 0 (name_count bs) (omega arith) g.words (omega arith) in
    let first : node_start bs 0 ≡ s + 1 + 1 = omega arith in
    let rows = rows_derive bs ws (sym count) named (node_count bs) 0 g.fit (omega arith) in
    laid_out a b (get_or bs s 0) (get_or bs (s + 1) 0) xs (drop (s + 1 + 1) bs) ws (block_nodes bs)
    (sym count)
    (let few = g.few_names in omega arith)
    (subst (λ (l : List ℕ). Names xs ws l) rest names)
    (sym (block_length bs))
    (subst (λ (k : ℕ). Rows ws (drop k bs) (block_nodes bs)) first rows)
    (block_shape bs h)

pub block_rule : BlockRule
block_rule bs ns = (λ h. subst (λ (l : List Node). Block bs l) h.1 (good_derived bs h.0), λ d. derived_good d)
