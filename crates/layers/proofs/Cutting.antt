-- What a cut shows has the shape of a record.
use Rattle.std.proofs.Common.{◌≡◌, ℕ, zero, suc, ◌+◌, ◌-◌, ◌<◌, ◌≤◌, Bool, true, false, cond, ◌||◌, ltb, eqb, List, [], ◌∷◌, ◌++◌, map, length, get_or, take, drop, ℤ, Some, None, Option, sym, refl, ap, ◌∙◌, subst, inl, inr, add-one, arith}
use Rattle.std.specs.List.{range_with_len, take_while}
use Rattle.std.proofs.lemmas.List.{drop_more, drop_all, map-append, take-map, drop-map, length-map, length-drop}
use Rattle.std.proofs.lemmas.Simd.{map-map}
use Rattle.std.proofs.lemmas.List.Sums.{take_while-cons}
use Rattle.std.proofs.lemmas.Bool.{cases_lt, eq-eqb, ne_eqb, ltb-true}
use Rattle.records.specs.Nodes.{Node, no_node, next_depth, proper, shaped, Shape, depth_at}
use Rattle.layers.specs.Layers.{Taken, Selected, run, cut_part, lowered, cut_nodes, Cuts}
use Rattle.layers.specs.Views.{cut_entries, entry_of, entries, raised, viewed, view_nodes, view_places}
use Rattle.records.specs.Shapes.{shaped_depth, shaped_from, shaped_proper, shaped_rest, proper_at, proper_from, proper_low, proper_ranged, proper_word}
use Rattle.layers.proofs.Selecting.{cut_selects}
use Rattle.layers.proofs.Entries.{length_entries, getD_entries, view_entries, places_entries}
use Rattle.layers.specs.declared.view.Shown.{Shown}

pub map_run : {X Y : Type 0} (f : X → Y) (d : ℕ) (ns : List Node) (xs : List X) → map f (run d ns xs) ≡ run d ns (map f xs)
map_run f d [] xs = refl
map_run f d (n ∷ ns) [] = refl
map_run f d (n ∷ ns) (x ∷ xs) =
    elim (ltb d n.depth) as (λ b. map f (cond b (x ∷ run d ns xs) []) ≡ cond b (f x ∷ run d ns (map f xs)) []) [
      | true ↦ ap (λ l. f x ∷ l) (map_run f d ns xs)
      | false ↦ refl
    ]

pub map_cut : {X Y : Type 0} (f : X → Y) (n : ℕ) (ns : List Node) (xs : List X) → map f (cut_part n ns xs) ≡ cut_part n ns (map f xs)
map_cut f n ns xs =
    map-append f (take 1 (drop n xs)) (run (depth_at ns n) (drop (n + 1) ns) (drop (n + 1) xs))
    ∙ ap (λ l. l ++ map f (run (depth_at ns n) (drop (n + 1) ns) (drop (n + 1) xs))) (sym (take-map f 1 (drop n xs)) ∙ ap (take 1) (sym (drop-map f n xs)))
    ∙ ap (λ l. take 1 (drop n (map f xs)) ++ l) (map_run f (depth_at ns n) (drop (n + 1) ns) (drop (n + 1) xs) ∙ ap (run (depth_at ns n) (drop (n + 1) ns)) (sym (drop-map f (n + 1) xs)))

pub length_run : {X : Type 0} (d : ℕ) (ns : List Node) (xs : List X) → length (run d ns xs) ≤ length ns
length_run d [] xs = omega arith
length_run d (n ∷ ns) [] = omega arith
length_run d (n ∷ ns) (x ∷ xs) =
    let ih = length_run d ns xs in
    elim (ltb d n.depth) as (λ b. length (cond b (x ∷ run d ns xs) []) ≤ suc (length ns)) [ true ↦ omega arith | false ↦ omega arith ]

-- what stands after node k is shaped by it
pub shaped_after : (m : ℕ) (ns : List Node) (k : ℕ) → shaped m ns ≡ true → k < length ns → shaped (next_depth (get_or ns k no_node).value (depth_at ns k)) (drop (suc k) ns) ≡ true
shaped_after m [] k h l = absurd (omega arith)
shaped_after m (n ∷ ns) zero h l = shaped_rest m n ns h
shaped_after m (n ∷ ns) (suc k) h l = shaped_after (next_depth n.value n.depth) ns k (shaped_rest m n ns h) (omega arith)

next_lowered : (v : Option ℤ) (d base : ℕ) → base ≤ d → next_depth v d - base ≤ next_depth v (d - base)
next_lowered None d base h = omega arith
next_lowered (Some z) d base h = omega arith

proper_lowered : (base : ℕ) (n : Node) → proper n ≡ true → proper (lowered base n) ≡ true
proper_lowered base n h = proper_from (lowered base n) (proper_word n h) (omega (arith, proper_low n h)) (proper_ranged n h)

run_shaped : (base m p : ℕ) (ns : List Node) → shaped m ns ≡ true → m - base ≤ p → shaped p (map (lowered base) (run base ns ns)) ≡ true
run_shaped base m p [] h f = refl
run_shaped base m p (n ∷ ns) h f =
    let d = shaped_depth m n ns h in
    elim (ltb base n.depth) as (λ b. ltb base n.depth ≡ b → shaped p (map (lowered base) (cond b (n ∷ run base ns ns) [])) ≡ true) [
      | true ↦ λ e.
          let deep = ltb-true base n.depth e in
          shaped_from p (lowered base n) (map (lowered base) (run base ns ns)) (omega arith) (proper_lowered base n (shaped_proper m n ns h))
          (run_shaped base (next_depth n.value n.depth) (next_depth n.value (n.depth - base)) ns (shaped_rest m n ns h) (next_lowered n.value n.depth base (omega arith)))
      | false ↦ λ e. refl
    ] refl

module _ (n : ℕ) (ns : List Node) where
  abbrev pub to_cut : ℕ → List Shown
  to_cut i = map (raised (depth_at ns n)) (run (depth_at ns n) (drop i ns) (drop i (entries 0 ns)))

  pub cut_none : length ns ≤ n → (cut_entries n ns) ≡ []
  cut_none h =
      let l = length_entries 0 ns in
      ap (λ (xs : List Shown). map (raised (depth_at ns n)) (take 1 xs ++ run (depth_at ns n) (drop (n + 1) ns) (drop (n + 1) (entries 0 ns)))) (drop_all n (entries 0 ns) (omega arith))
      ∙ ap (λ (xs : List Node). map (raised (depth_at ns n)) (run (depth_at ns n) xs (drop (n + 1) (entries 0 ns)))) (drop_all (n + 1) ns (omega arith))

  pub cut_first : n < length ns → (cut_entries n ns) ≡ raised (depth_at ns n) (entry_of n (get_or ns n no_node)) ∷ to_cut (n + 1)
  cut_first h =
      let l = length_entries 0 ns in
      let e = entry_of n (get_or ns n no_node) in
      ap (λ (xs : List Shown). map (raised (depth_at ns n)) (take 1 xs ++ run (depth_at ns n) (drop (n + 1) ns) (drop (n + 1) (entries 0 ns)))) (drop_more (entries 0 ns) n e (omega arith))
      ∙ ap (λ (s : Shown). raised (depth_at ns n) s ∷ to_cut (n + 1)) (getD_entries 0 ns n e h ∙ ap (λ (j : ℕ). entry_of j (get_or ns n no_node)) (omega arith))

  pub cut_end : (i : ℕ) → length ns ≤ i → to_cut i ≡ []
  cut_end i h = ap (λ (xs : List Node). map (raised (depth_at ns n)) (run (depth_at ns n) xs (drop i (entries 0 ns)))) (drop_all i ns h)

  module _ (i : ℕ) (h : i < length ns) where
    cut_step : to_cut i ≡ map (raised (depth_at ns n)) (cond (ltb (depth_at ns n) (depth_at ns i)) (entry_of i (get_or ns i no_node) ∷ run (depth_at ns n) (drop (i + 1) ns) (drop (i + 1) (entries 0 ns))) [])
    cut_step =
        let l = length_entries 0 ns in
        let e = entry_of i (get_or ns i no_node) in
        let d = depth_at ns n in
        ap (λ (xs : List Node). map (raised d) (run d xs (drop i (entries 0 ns)))) (drop_more ns i no_node h)
        ∙ ap (λ (xs : List Shown). map (raised d) (run d (get_or ns i no_node ∷ drop (i + 1) ns) xs)) (drop_more (entries 0 ns) i e (omega arith))
        ∙ ap (λ (s : Shown). map (raised d) (cond (ltb d (depth_at ns i)) (s ∷ run d (drop (i + 1) ns) (drop (i + 1) (entries 0 ns))) [])) (getD_entries 0 ns i e h ∙ ap (λ (j : ℕ). entry_of j (get_or ns i no_node)) (omega arith))

  -- the entries as a chain over the numbers makes them
  abbrev pub goes : ℕ → Bool
  goes i = eqb i n || ltb (depth_at ns n) (depth_at ns i)

  abbrev pub cut_entry : ℕ → Shown
  cut_entry i = raised (depth_at ns n) (entry_of i (get_or ns i no_node))

  cut_rest : (i k : ℕ) → i + k ≡ length ns → n < i → map cut_entry (take_while goes (range_with_len i k)) ≡ to_cut i
  cut_rest i zero e h = sym (cut_end i (omega arith))
  cut_rest i (suc k) e h =
      let rest = take_while goes (range_with_len (i + 1) k) in
      let d = depth_at ns n in
      ap (map cut_entry) (take_while-cons goes i (range_with_len (i + 1) k) ∙ ap (λ (b : Bool). cond (b || ltb d (depth_at ns i)) (i ∷ rest) []) (ne_eqb i n (omega arith)))
      ∙ (elim (ltb d (depth_at ns i)) as (λ b. map cut_entry (cond b (i ∷ rest) []) ≡ map (raised d) (cond b (entry_of i (get_or ns i no_node) ∷ run d (drop (i + 1) ns) (drop (i + 1) (entries 0 ns))) [])) [
        | true ↦ ap (λ (l : List Shown). cut_entry i ∷ l) (cut_rest (i + 1) k (omega arith) (omega arith))
        | false ↦ refl
      ])
      ∙ sym (cut_step i (omega arith))

  pub cut_chain : map cut_entry (take_while goes (range_with_len n (length ns - n))) ≡ cut_entries n ns
  cut_chain = elim (cases_lt n (length ns)) [
    | inl h ↦
        let k = length ns - (n + 1) in
        let more : length ns - n ≡ suc k = omega arith in
        let rest = take_while goes (range_with_len (n + 1) k) in
        ap (λ (m : ℕ). map cut_entry (take_while goes (range_with_len n m))) more
        ∙ ap (map cut_entry) (take_while-cons goes n (range_with_len (n + 1) k) ∙ ap (λ (b : Bool). cond (b || ltb (depth_at ns n) (depth_at ns n)) (n ∷ rest) []) (eq-eqb n n refl))
        ∙ ap (λ (l : List Shown). cut_entry n ∷ l) (cut_rest (n + 1) k (omega arith) (omega arith))
        ∙ sym (cut_first h)
    | inr h ↦
        let none : length ns - n ≡ 0 = omega arith in
        ap (λ (m : ℕ). map cut_entry (take_while goes (range_with_len n m))) none ∙ sym (cut_none h)
  ]

  -- the nodes of the cut, where there is a node n
  part_there : n < length ns → cut_part n ns ns ≡ get_or ns n no_node ∷ run (depth_at ns n) (drop (n + 1) ns) (drop (n + 1) ns)
  part_there h = ap (λ (l : List Node). take 1 l ++ run (depth_at ns n) (drop (n + 1) ns) (drop (n + 1) ns)) (drop_more ns n no_node h)

  part_none : length ns ≤ n → cut_part n ns ns ≡ []
  part_none h =
      ap (λ (l : List Node). take 1 l ++ run (depth_at ns n) (drop (n + 1) ns) (drop (n + 1) ns)) (drop_all n ns h)
      ∙ ap (λ (l : List Node). run (depth_at ns n) l (drop (n + 1) ns)) (drop_all (n + 1) ns (omega arith))

  cut_shape : Shape ns → Shape (cut_nodes n ns)
  cut_shape s =
      let d = depth_at ns n in
      let few = s.0 in
      elim (cases_lt n (length ns)) [
        | inl h ↦
            let node = get_or ns n no_node in
            let rest = run d (drop (n + 1) ns) (drop (n + 1) ns) in
            let after : shaped (next_depth node.value d) (drop (n + 1) ns) ≡ true = ap (λ (j : ℕ). shaped (next_depth node.value d) (drop j ns)) (add-one n) ∙ shaped_after 0 ns n s.1 h in
            subst (λ (l : List Node). Shape (map (lowered d) l)) (sym (part_there h)) (
              omega (arith, length-map rest (lowered d), length_run d (drop (n + 1) ns) (drop (n + 1) ns), length-drop (n + 1) ns),
              shaped_from 0 (lowered d node) (map (lowered d) rest) (omega arith) (proper_lowered d node (proper_at 0 ns n s.1 h))
                  (run_shaped d (next_depth node.value d) (next_depth node.value (d - d)) (drop (n + 1) ns) after (next_lowered node.value d d (omega arith))),
            )
        | inr h ↦ subst (λ (l : List Node). Shape (map (lowered d) l)) (sym (part_none h)) (omega arith, refl)
      ]

  cut_shown : view_nodes ns (cut_entries n ns) ≡ cut_nodes n ns
  cut_shown =
      let d = depth_at ns n in
      let part = cut_part n ns (entries 0 ns) in
      map-map (viewed ns) (raised d) part
      ∙ sym (map-map (lowered d) (viewed ns) part)
      ∙ ap (map (lowered d)) (map_cut (viewed ns) n ns (entries 0 ns) ∙ ap (λ (l : List Node). cut_part n ns l) (view_entries ns 0 ns (λ k l. ap (λ (j : ℕ). get_or ns j no_node) (omega arith))))

  cut_places : (ps : List ℕ) → length ps ≡ length ns → view_places ps (cut_entries n ns) ≡ cut_part n ns ps
  cut_places ps level =
      let f : Shown → ℕ = λ s. get_or ps s.at 0 in
      map-map f (raised (depth_at ns n)) (cut_part n ns (entries 0 ns))
      ∙ map_cut f n ns (entries 0 ns)
      ∙ ap (λ (l : List ℕ). cut_part n ns l) (places_entries ps 0 ns ps level (λ k l. ap (λ (j : ℕ). get_or ps j 0) (omega arith)))

  pub cuts : (ps : List ℕ) → length ps ≡ length ns → Cuts n ns ps (view_nodes ns (cut_entries n ns)) (view_places ps (cut_entries n ns))
  cuts ps level =
      record {
        nodes = cut_shown;
        places = cut_places ps level;
        taken = (cut_part n ns ns, cut_selects n ns ns refl, cut_shown);
        taken_places = subst (Selected (Taken n ns) 0 ps) (sym (cut_places ps level)) (cut_selects n ns ps level);
      }

  pub cut_view_shape : Shape ns → Shape (view_nodes ns (cut_entries n ns))
  cut_view_shape s = subst Shape (sym cut_shown) (cut_shape s)
