-- The names that are looked up by their places are the nodes' own.
use Rattle.std.proofs.Common.{◌≡◌, ℕ, zero, suc, ◌+◌, ◌<◌, ◌≤◌, Bool, true, false, cond, ◌&&◌, ltb, List, [], ◌∷◌, ◌++◌, map, length, get_or, take, drop, Some, None, codes, Option as Maybe, sym, refl, ap, ◌∙◌, arith}
use Rattle.std.specs.List.{range_with_len, list_all}
use Rattle.std.specs.Str.{bytes_eq}
use Rattle.std.proofs.lemmas.List.FromFn.{get_or-map-range_with_len}
use Rattle.std.proofs.lemmas.Slice.Eq.{bytes_eq-Decides}
use Rattle.std.proofs.lemmas.Bool.{and_parts, lt-ltb}
use Rattle.records.specs.Nodes.{Node, no_node, depth_at, value_at, named_at}
use Rattle.records.specs.Sums.{total_of}
use Rattle.layers.specs.Layers.{hidden_by, unless_hidden, shown, without, run, lowered, cut_part, cut_nodes}
use Rattle.blocks.specs.Places.{block_nodes, block_places, node_at, node_count, node_start}
use Rattle.record_text.specs.declared.entry.Entry.{Entry}
use Rattle.record_text.specs.Opening.{Reads}
use Rattle.record_text.specs.Texts.{text_node, text_nodes, text_places}
use Rattle.record_text.proofs.Complete.{name_byte, word_all}
use Rattle.record_text.proofs.Tells.{Tells, tells}
use Rattle.reports.specs.Lines.{row, count_line, total_line}
use Rattle.reports.specs.Rows.{own, found, record_line, record_lines}
use Rattle.reports.specs.Piles.{summed, with_hidden, with_kept, with_cut}
use Rattle.reports.specs.Standing.{word_front, text_name}

-- at the place of each node its name is found
abbrev pub Named : (ℕ → List ℕ) → List Node → List ℕ → Type 0
Named f [] [] = Unit {0}
Named f [] (p ∷ ps) = ⊥
Named f (n ∷ ns) [] = ⊥
Named f (n ∷ ns) (p ∷ ps) = (f p ≡ n.name) × Named f ns ps

module _ (f : ℕ → List ℕ) where
  named_here : (ns : List Node) (ps : List ℕ) → Named f ns ps → (k : ℕ) → k < length ns → f (get_or ps k 0) ≡ (get_or ns k no_node).name
  named_here [] [] h k l = absurd (omega arith)
  named_here [] (p ∷ ps) h k l = absurd h
  named_here (n ∷ ns) [] h k l = absurd h
  named_here (n ∷ ns) (p ∷ ps) h zero l = h.0
  named_here (n ∷ ns) (p ∷ ps) h (suc k) l = named_here ns ps h.1 k (omega arith)

  found_own : (ns : List Node) (ps : List ℕ) → Named f ns ps → (k : ℕ) → k < length ns → found f ns ps k ≡ own ns ps k
  found_own ns ps h k l =
      let e = named_here ns ps h k l in
      let w = f (get_or ps k 0) in
      let t : named_at ns k w ≡ true = ap (λ b. b && bytes_eq (own ns ps k) w) (lt-ltb k (length ns) l) ∙ (bytes_eq-Decides (own ns ps k) w).1 (sym e) in
      ap (λ b. cond b w (codes "?")) t ∙ e

  lines_own : (ns : List Node) (ps : List ℕ) → Named f ns ps → (k m : ℕ) → k + m ≤ length ns → record_lines (found f) ns ps k m ≡ record_lines own ns ps k m
  lines_own ns ps h k zero l = refl
  lines_own ns ps h k (suc m) l =
      ap (λ x. row k (get_or ps k 0) (depth_at ns k) x (value_at ns k) ++ record_lines (found f) ns ps (k + 1) m) (found_own ns ps h k (omega arith))
      ∙ ap (λ y. record_line own ns ps k ++ y) (lines_own ns ps h (k + 1) m (omega arith))

  summed_own : (t : Bool) (ns : List Node) (ps : List ℕ) → Named f ns ps → summed (found f) t ns ps ≡ summed own t ns ps
  summed_own t ns ps h = ap (λ l. (l ++ count_line (length ns)) ++ cond t (total_line (total_of ns)) []) (lines_own ns ps h 0 (length ns) (omega arith))

  -- layers keep it
  named_unless : (top : Maybe ℕ) (n : Node) (p : ℕ) (ns : List Node) (ps : List ℕ) → f p ≡ n.name → Named f ns ps → Named f (unless_hidden top n ns) (unless_hidden top p ps)
  named_unless None n p ns ps e h = (e, h)
  named_unless (Some d) n p ns ps e h = h

  named_shown : (w : List ℕ) (top : Maybe ℕ) (ms ns : List Node) (ps : List ℕ) → Named f ns ps → Named f (shown w top ms ns) (shown w top ms ps)
  named_shown w top [] ns ps h = tt
  named_shown w top (m ∷ ms) [] [] h = tt
  named_shown w top (m ∷ ms) [] (p ∷ ps) h = absurd h
  named_shown w top (m ∷ ms) (n ∷ ns) [] h = absurd h
  named_shown w top (m ∷ ms) (n ∷ ns) (p ∷ ps) h =
      let after = hidden_by w top m in
      named_unless after n p (shown w after ms ns) (shown w after ms ps) h.0 (named_shown w after ms ns ps h.1)

  named_run : (d : ℕ) (ms ns : List Node) (ps : List ℕ) → Named f ns ps → Named f (run d ms ns) (run d ms ps)
  named_run d [] ns ps h = tt
  named_run d (m ∷ ms) [] [] h = tt
  named_run d (m ∷ ms) [] (p ∷ ps) h = absurd h
  named_run d (m ∷ ms) (n ∷ ns) [] h = absurd h
  named_run d (m ∷ ms) (n ∷ ns) (p ∷ ps) h =
      elim (ltb d m.depth) as (λ b. Named f (cond b (n ∷ run d ms ns) []) (cond b (p ∷ run d ms ps) [])) [ true ↦ (h.0, named_run d ms ns ps h.1) | false ↦ tt ]

  named_drop : (k : ℕ) (ns : List Node) (ps : List ℕ) → Named f ns ps → Named f (drop k ns) (drop k ps)
  named_drop zero ns ps h = h
  named_drop (suc k) [] [] h = tt
  named_drop (suc k) [] (p ∷ ps) h = absurd h
  named_drop (suc k) (n ∷ ns) [] h = absurd h
  named_drop (suc k) (n ∷ ns) (p ∷ ps) h = named_drop k ns ps h.1

  named_first : (ns ms : List Node) (ps qs : List ℕ) → Named f ns ps → Named f ms qs → Named f (take 1 ns ++ ms) (take 1 ps ++ qs)
  named_first [] ms [] qs h g = g
  named_first [] ms (p ∷ ps) qs h g = absurd h
  named_first (n ∷ ns) ms [] qs h g = absurd h
  named_first (n ∷ ns) ms (p ∷ ps) qs h g = (h.0, g)

  named_lowered : (d : ℕ) (ns : List Node) (ps : List ℕ) → Named f ns ps → Named f (map (lowered d) ns) ps
  named_lowered d [] [] h = tt
  named_lowered d [] (p ∷ ps) h = absurd h
  named_lowered d (n ∷ ns) [] h = absurd h
  named_lowered d (n ∷ ns) (p ∷ ps) h = (h.0, named_lowered d ns ps h.1)

  named_cut : (n : ℕ) (ns : List Node) (ps : List ℕ) → Named f ns ps → Named f (cut_nodes n ns) (cut_part n ns ps)
  named_cut n ns ps h =
      named_lowered (depth_at ns n) (cut_part n ns ns) (cut_part n ns ps)
      (named_first (drop n ns) (run (depth_at ns n) (drop (n + 1) ns) (drop (n + 1) ns)) (drop n ps) (run (depth_at ns n) (drop (n + 1) ns) (drop (n + 1) ps))
      (named_drop n ns ps h) (named_run (depth_at ns n) (drop (n + 1) ns) (drop (n + 1) ns) (drop (n + 1) ps) (named_drop (n + 1) ns ps h)))

  hidden_own : (t : Bool) (w : List ℕ) (ns : List Node) (ps : List ℕ) → Named f ns ps → with_hidden (found f) t w ns ps ≡ with_hidden own t w ns ps
  hidden_own t w ns ps h = summed_own t (without w ns ns) (without w ns ps) (named_shown w _ ns ns ps h)

  kept_own : (t : Bool) (w : Maybe (List ℕ)) (ns : List Node) (ps : List ℕ) → Named f ns ps → with_kept (found f) t w ns ps ≡ with_kept own t w ns ps
  kept_own t None ns ps h = summed_own t ns ps h
  kept_own t (Some w) ns ps h = hidden_own t w ns ps h

  pub cut_own : (t : Bool) (w : Maybe (List ℕ)) (c : Maybe ℕ) (ns : List Node) (ps : List ℕ) → Named f ns ps → with_cut (found f) t w c ns ps ≡ with_cut own t w c ns ps
  cut_own t w None ns ps h = kept_own t w ns ps h
  cut_own t w (Some n) ns ps h = kept_own t w (cut_nodes n ns) (cut_part n ns ps) (named_cut n ns ps h)

-- a block's nodes are numbered by their places
named_counting : (f : ℕ → List ℕ) (g : ℕ → Node) (i m : ℕ) → ((k : ℕ) → i ≤ k → k < i + m → f k ≡ (g k).name) → Named f (map g (range_with_len i m)) (range_with_len i m)
named_counting f g i zero h = tt
named_counting f g i (suc m) h = (h i (omega arith) (omega arith), named_counting f g (i + 1) m (λ k a b. h k (omega arith) (omega arith)))

pub block_named : (b : List ℕ) → Named (λ p. (get_or (block_nodes b) p no_node).name) (block_nodes b) (block_places b)
block_named b =
    let g : ℕ → Node = λ i. node_at b (node_start b i) in
    named_counting (λ p. (get_or (block_nodes b) p no_node).name) g 0 (node_count b) (λ k l h. ap (λ (n : Node). n.name) (get_or-map-range_with_len g 0 (node_count b) k k no_node (omega arith) (omega arith)))

-- a text's names end before the first byte that belongs to no word
front_word : (w : List ℕ) (x : ℕ) (C : List ℕ) → list_all name_byte w ≡ true → name_byte x ≡ false → word_front (w ++ x ∷ C) ≡ w
unfolding name_byte
front_word [] x C a b = ap (λ k. cond k (x ∷ word_front C) []) b
front_word (c ∷ w) x C a b =
    let q = and_parts (name_byte c) (list_all name_byte w) a in
    ap (λ k. cond k (c ∷ word_front (w ++ x ∷ C)) []) q.0 ∙ ap (λ l. c ∷ l) (front_word w x C q.1 b)

told_named : (t : List ℕ) (es : List Entry) → Tells t es → Named (text_name t) (text_nodes t es) (text_places es)
told_named t [] h = tt
told_named t (e ∷ es) h =
    let n = h.0.1 in
    let w = (text_node t e).name in
    (ap word_front n.3 ∙ front_word w n.0 n.1 (word_all w h.0.0) n.2, told_named t es h.2)

pub text_named : (t : List ℕ) (es : List Entry) → Reads t es → Named (text_name t) (text_nodes t es) (text_places es)
text_named t es r = told_named t es (tells t es r)
