-- The functions of the layers select what their definitions say.
use Rattle.std.proofs.Common.{◌≡◌, ℕ, zero, suc, ◌+◌, ◌<◌, ◌≤◌, min, Bool, true, false, cond, ◌&&◌, ltb, List, [], ◌∷◌, ◌++◌, length, get_or, take, drop, Some, None, Option, sym, refl, ap, ◌∙◌, subst, inl, inr, add-one, arith}
use mathlib.Core.Bool.{false≢true}
use native.Mathlib.Decide.{dec_lt}
use Rattle.std.proofs.lemmas.Bool.{ltb-true, ltb-false, lt-ltb}
use Rattle.std.specs.Str.{bytes_eq}
use Rattle.records.specs.Nodes.{Node, no_node, depth_at, named_at}
use Rattle.layers.specs.Layers.{Beneath, Kept, Taken, Selected, nothing, keeps, leaves, hidden_by, unless_hidden, shown, without, run, cut_part}

-- nodes ms are what is left of ns from i on
abbrev pub Suffix : List Node → ℕ → List Node → Type 0
Suffix ns i ms = (i + length ms ≡ length ns) × ((k : ℕ) → k < length ms → get_or ns (i + k) no_node ≡ get_or ms k no_node)

suffix_first : (ns : List Node) (i : ℕ) (n : Node) (ms : List Node) → Suffix ns i (n ∷ ms) → get_or ns i no_node ≡ n
suffix_first ns i n ms s = ap (λ (j : ℕ). get_or ns j no_node) (omega arith) ∙ s.1 0 (omega arith)

suffix_rest : (ns : List Node) (i : ℕ) (n : Node) (ms : List Node) → Suffix ns i (n ∷ ms) → Suffix ns (i + 1) ms
suffix_rest ns i n ms s = (omega (arith, s.0), λ k h. ap (λ (j : ℕ). get_or ns j no_node) (omega arith) ∙ s.1 (suc k) (omega arith))

-- The hidden node at depth `top` has what lies at depth d beneath it.
abbrev pub Under : Option ℕ → ℕ → Type 0
Under None d = ⊥
Under (Some top) d = top < d

-- what hiding does at a node: it goes on leaving out, begins, or shows the node
module _ (w : List ℕ) (n : Node) where
  pub data Step : Option ℕ → Option ℕ → Type 0 where
    stays : {t : ℕ} → t < n.depth → Step (Some t) (Some t)
    begins : {top : Option ℕ} → (Under top n.depth → ⊥) → bytes_eq n.name w ≡ true → Step top (Some n.depth)
    ends : {top : Option ℕ} → (Under top n.depth → ⊥) → bytes_eq n.name w ≡ false → Step top None

  step_out : (top : Option ℕ) → (Under top n.depth → ⊥) → Step top (cond (bytes_eq n.name w) (Some n.depth) None)
  step_out top h = elim (bytes_eq n.name w) as (λ s. bytes_eq n.name w ≡ s → Step top (cond s (Some n.depth) None)) [ true ↦ λ e. begins h e | false ↦ λ e. ends h e ] refl

  pub step_at : (top : Option ℕ) → Step top (hidden_by w top n)
  step_at None = step_out None (λ u. u)
  step_at (Some t) =
      elim (ltb t n.depth) as (λ b. ltb t n.depth ≡ b → Step (Some t) (cond b (Some t) (cond (bytes_eq n.name w) (Some n.depth) None))) [
        | true ↦ λ e. stays (ltb-true t n.depth e)
        | false ↦ λ e. step_out (Some t) (λ u. let h = ltb-false t n.depth e in omega arith)
      ] refl

module _ (w : List ℕ) (ns : List Node) where
  -- at node i, whatever is deeper than d lies beneath a node of the name
  pub record Covered (i d : ℕ) : Type 0 where
    pub at : ℕ
    pub before : at < i
    pub named : named_at ns at w ≡ true
    pub deeper : (k : ℕ) → at < k → k < i → depth_at ns at < depth_at ns k
    pub less : depth_at ns at < d

  -- that is what the hidden node says
  abbrev pub Hidden : ℕ → Option ℕ → Type 0
  Hidden i top = (d : ℕ) → (Covered i d → Under top d) × (Under top d → Covered i d)

  none_hidden : Hidden 0 None
  none_hidden d = ((λ c. let b = c.before in absurd (omega arith)), (λ u. absurd u))

  -- a node before i, seen from i + 1
  module _ (i d : ℕ) (c : Covered (i + 1) d) where
    covered_before : c.at < i → Covered i d
    covered_before h = record { at = c.at; before = h; named = c.named; deeper = λ k a b. c.deeper k a (omega arith); less = c.less }

    covered_under : c.at < i → Covered i (depth_at ns i)
    covered_under h = record { at = c.at; before = h; named = c.named; deeper = λ k a b. c.deeper k a (omega arith); less = c.deeper i h (omega arith) }

  -- a node beneath the hidden one
  hidden_stays : (i t : ℕ) → Hidden i (Some t) → t < depth_at ns i → Hidden (i + 1) (Some t)
  hidden_stays i t inv h d = (
    (λ c. elim (dec_lt c.at i) [
      | yes p ↦ (inv d).0 (covered_before i d c p)
      | no q ↦ (let e : c.at ≡ i = omega (arith, c.before) in let f = ap (depth_at ns) e in omega (arith, c.less))
    ]),
    (λ q.
        let m : ℕ = min d (depth_at ns i) in
        let x = (inv m).1 (omega arith) in
        let under : depth_at ns x.at < depth_at ns i = omega (arith, x.less) in
        record {
          at = x.at;
          before = omega (arith, x.before);
          named = x.named;
          deeper = λ k a z. elim (dec_lt k i) [
            | yes p ↦ x.deeper k a p
            | no r ↦ (let e : k ≡ i = omega arith in let f = ap (depth_at ns) e in omega (arith, under))
          ];
          less = omega (arith, x.less);
        }),
  )

  module _ (i : ℕ) (top : Option ℕ) (inv : Hidden i top) where
    -- a node that is not, so no node before it covers it
    module _ (h : Under top (depth_at ns i) → ⊥) where
      uncovered : Covered i (depth_at ns i) → ⊥
      uncovered c = h ((inv (depth_at ns i)).0 c)

      hidden_begins : named_at ns i w ≡ true → Hidden (i + 1) (Some (depth_at ns i))
      hidden_begins e d = (
        (λ c. elim (dec_lt c.at i) [
          | yes p ↦ absurd (uncovered (covered_under i d c p))
          | no q ↦ (let f : c.at ≡ i = omega (arith, c.before) in let g = ap (depth_at ns) f in omega (arith, c.less))
        ]),
        (λ q. record { at = i; before = omega arith; named = e; deeper = λ k a z. absurd (omega arith); less = q }),
      )

      hidden_ends : named_at ns i w ≡ false → Hidden (i + 1) None
      hidden_ends e d = (
        (λ c. elim (dec_lt c.at i) [
          | yes p ↦ absurd (uncovered (covered_under i d c p))
          | no q ↦ (let f : c.at ≡ i = omega (arith, c.before) in absurd (false≢true (sym e ∙ (ap (λ j. named_at ns j w) (sym f) ∙ c.named))))
        ]),
        (λ q. absurd q),
      )

      is_kept : named_at ns i w ≡ false → Kept w ns i
      is_kept e =
          record {
            itself = e;
            above = λ j b. not_named (named_at ns j w) j refl (λ t.
                uncovered (record { at = j; before = b.later; named = t; deeper = λ k x y. b.deeper k x (omega arith); less = b.deeper i b.later (omega arith) }));
          }
        where
          not_named : (b : Bool) (j : ℕ) → named_at ns j w ≡ b → (named_at ns j w ≡ true → ⊥) → named_at ns j w ≡ false
          not_named true j e f = absurd (f e)
          not_named false j e f = e

    not_kept : Under top (depth_at ns i) → Kept w ns i → ⊥
    not_kept h k =
        let c = (inv (depth_at ns i)).1 h in
        let b : Beneath ns c.at i = record {
          later = c.before;
          deeper = λ m x y. elim (dec_lt m i) [
            | yes p ↦ c.deeper m x p
            | no r ↦ (let e : m ≡ i = omega arith in let f = ap (depth_at ns) e in omega (arith, c.less))
          ];
        } in
        false≢true (sym (k.above c.at b) ∙ c.named)

  named_here : (i : ℕ) (n : Node) (b : Bool) → i < length ns → get_or ns i no_node ≡ n → bytes_eq n.name w ≡ b → named_at ns i w ≡ b
  named_here i n b h e f =
      ap (λ (t : Bool). t && bytes_eq (get_or ns i no_node).name w) (lt-ltb i (length ns) h)
      ∙ (ap (λ (m : Node). bytes_eq m.name w) e ∙ f)

  -- one node, where the rest is selected
  node_selected : {X : Type 0} (i : ℕ) (n : Node) (x : X) (xs : List X) (f : Option ℕ → List X) (top after : Option ℕ) → i < length ns → get_or ns i no_node ≡ n → Hidden i top →
      ((t : Option ℕ) → Hidden (i + 1) t → Selected (Kept w ns) (i + 1) xs (f t)) → Step w n top after →
      Selected (Kept w ns) i (x ∷ xs) (unless_hidden after x (f after))
  node_selected i n x xs f top after h e inv rest (stays {t = t} l) =
      let d : n.depth ≡ depth_at ns i = sym (ap (λ (m : Node). m.depth) e) in
      leaves (not_kept i (Some t) inv (omega arith)) (rest (Some t) (hidden_stays i t inv (omega arith)))
  node_selected i n x xs f top after h e inv rest (begins o s) =
      let d : n.depth ≡ depth_at ns i = sym (ap (λ (m : Node). m.depth) e) in
      let named = named_here i n true h e s in
      leaves (λ k. false≢true (sym k.itself ∙ named)) (rest (Some n.depth) (subst (λ (m : ℕ). Hidden (i + 1) (Some m)) (sym d) (hidden_begins i top inv (subst (λ (m : ℕ). Under top m → ⊥) d o) named)))
  node_selected i n x xs f top after h e inv rest (ends o s) =
      let d : n.depth ≡ depth_at ns i = sym (ap (λ (m : Node). m.depth) e) in
      let out = subst (λ (m : ℕ). Under top m → ⊥) d o in
      let other = named_here i n false h e s in
      keeps (is_kept i top inv out other) (rest None (hidden_ends i top inv out other))

  pub shown_selects : {X : Type 0} (i : ℕ) (top : Option ℕ) (ms : List Node) (xs : List X) → length xs ≡ length ms → Suffix ns i ms → Hidden i top → Selected (Kept w ns) i xs (shown w top ms xs)
  shown_selects i top [] [] e s inv = nothing
  shown_selects i top [] (x ∷ xs) e s inv = absurd (omega arith)
  shown_selects i top (n ∷ ms) [] e s inv = absurd (omega arith)
  shown_selects i top (n ∷ ms) (x ∷ xs) e s inv =
      node_selected i n x xs (λ t. shown w t ms xs) top (hidden_by w top n) (omega (arith, s.0)) (suffix_first ns i n ms s) inv
      (λ t k. shown_selects (i + 1) t ms xs (omega arith) (suffix_rest ns i n ms s) k) (step_at w n top)

whole : (ns : List Node) → Suffix ns 0 ns
whole ns = (omega arith, λ k h. ap (λ (j : ℕ). get_or ns j no_node) (omega arith))

pub hidden_selects : {X : Type 0} (w : List ℕ) (ns : List Node) (xs : List X) → length xs ≡ length ns → Selected (Kept w ns) 0 xs (without w ns xs)
hidden_selects w ns xs e = shown_selects w ns 0 None ns xs e (whole ns) (none_hidden w ns)

-- the cut at n
module _ (n : ℕ) (ns : List Node) where
  not_taken : (i j : ℕ) → n < i → i ≤ j → depth_at ns i ≤ depth_at ns n → Taken n ns j → ⊥
  not_taken i j a b d (inl e) = omega arith
  not_taken i j a b d (inr u) = let q = u.deeper i a b in omega arith

  not_yet : (i : ℕ) → i < n → Taken n ns i → ⊥
  not_yet i a (inl e) = omega arith
  not_yet i a (inr u) = let q = u.later in omega arith

  -- past a node that is not deeper, nothing is taken any more
  none_after : {X : Type 0} (i j : ℕ) (xs : List X) → n < i → i ≤ j → depth_at ns i ≤ depth_at ns n → Selected (Taken n ns) j xs []
  none_after i j [] a b d = nothing
  none_after i j (x ∷ xs) a b d =
      leaves (not_taken i j a b d) (none_after i (j + 1) xs a (omega arith) d)

  run_selects : {X : Type 0} (i : ℕ) (ms : List Node) (xs : List X) → length xs ≡ length ms → Suffix ns i ms → n < i → ((k : ℕ) → n < k → k < i → depth_at ns n < depth_at ns k) →
      Selected (Taken n ns) i xs (run (depth_at ns n) ms xs)
  run_selects i [] [] e s a f = nothing
  run_selects i [] (x ∷ xs) e s a f = absurd (omega arith)
  run_selects i (m ∷ ms) [] e s a f = absurd (omega arith)
  run_selects i (m ∷ ms) (x ∷ xs) e s a f =
      let depth : depth_at ns i ≡ m.depth = ap (λ (y : Node). y.depth) (suffix_first ns i m ms s) in
      elim (ltb (depth_at ns n) m.depth) as (λ b. ltb (depth_at ns n) m.depth ≡ b → Selected (Taken n ns) i (x ∷ xs) (cond b (x ∷ run (depth_at ns n) ms xs) [])) [
        | true ↦ λ q.
            let h : depth_at ns n < depth_at ns i = omega (arith, ltb-true (depth_at ns n) m.depth q) in
            let g : (k : ℕ) → n < k → k < i + 1 → depth_at ns n < depth_at ns k =
            λ k u v. elim (dec_lt k i) [ yes p ↦ f k u p | no r ↦ (let z : k ≡ i = omega arith in let y = ap (depth_at ns) z in omega arith) ] in
            keeps (inr (record { later = a; deeper = λ k u v. g k u (omega arith) })) (run_selects (i + 1) ms xs (omega arith) (suffix_rest ns i m ms s) (omega arith) g)
        | false ↦ λ q.
            let h : depth_at ns i ≤ depth_at ns n = omega (arith, ltb-false (depth_at ns n) m.depth q) in
            none_after i i (x ∷ xs) a (omega arith) h
      ] refl

  -- up to node n nothing is taken: m nodes are still to come
  up_to : {X : Type 0} (m i : ℕ) (ms : List Node) (xs : List X) → i + m ≡ n → length xs ≡ length ms → Suffix ns i ms →
      Selected (Taken n ns) i xs (take 1 (drop m xs) ++ run (depth_at ns n) (drop (suc m) ms) (drop (suc m) xs))
  up_to zero i [] [] a e s = nothing
  up_to (suc m) i [] [] a e s = nothing
  up_to zero i [] (x ∷ xs) a e s = absurd (omega arith)
  up_to (suc m) i [] (x ∷ xs) a e s = absurd (omega arith)
  up_to zero i (y ∷ ms) [] a e s = absurd (omega arith)
  up_to (suc m) i (y ∷ ms) [] a e s = absurd (omega arith)
  up_to zero i (y ∷ ms) (x ∷ xs) a e s =
      keeps (inl (omega arith)) (run_selects (i + 1) ms xs (omega arith) (suffix_rest ns i y ms s) (omega arith) (λ k u v. absurd (omega arith)))
  up_to (suc m) i (y ∷ ms) (x ∷ xs) a e s =
      leaves (not_yet i (omega arith)) (up_to m (i + 1) ms xs (omega arith) (omega arith) (suffix_rest ns i y ms s))

  pub cut_selects : {X : Type 0} (xs : List X) → length xs ≡ length ns → Selected (Taken n ns) 0 xs (cut_part n ns xs)
  cut_selects {X} xs e =
      subst (λ (k : ℕ). Selected (Taken n ns) 0 xs (take 1 (drop n xs) ++ run (depth_at ns n) (drop k ns) (drop k xs))) (sym (add-one n)) (up_to n 0 ns xs (omega arith) e (whole ns))
