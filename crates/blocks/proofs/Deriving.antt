-- A good block is derived by the layout.
use Rattle.std.proofs.Common.{◌≡◌, ℕ, zero, suc, ◌+◌, ◌*◌, ◌<◌, ◌≤◌, true, false, cond, ◌&&◌, eqb, ltb, leb, List, [], ◌∷◌, ◌++◌, map, length, get_or, drop, ℤ, pos, negsuc, nat_abs, Some, None, Option, sym, refl, ap, ◌∙◌, subst, add-one, arith, length-drop}
use Rattle.std.specs.List.{range_with_len, list_all}
use Rattle.std.proofs.lemmas.List.{drop_all, drop-drop, drop_more, get_or-drop, length-take-le, take-append-drop}
use Rattle.std.proofs.lemmas.Bool.{and_parts, eqb-true, leb-true, ltb-true}
use Rattle.lexical.specs.Rounding.{hundredths}
use Rattle.lexical.specs.Words.{word}
use Rattle.records.specs.Nodes.{Node}
use Rattle.blocks.specs.Layout.{greatest_thousandths, branch, leaf, Names, no_name, a_name, Rows, no_row, a_branch, a_leaf}
use Rattle.blocks.specs.Places.{name_count, name_start, name_at, name_of, node_start, name_number, node_depth, node_kind, node_thousandths, node_at, node_fits}

-- names start one after another
pub starts_rise : (bs : List ℕ) (k n m : ℕ) → k + n ≡ m → name_start bs k ≤ name_start bs m
starts_rise bs k zero m e = let q : m ≡ k = omega arith in let s = ap (name_start bs) q in omega arith
starts_rise bs k (suc n) m e =
    let rest = starts_rise bs (k + 1) n m (omega arith) in
    let step : name_start bs (k + 1) ≡ name_start bs k + 1 + get_or bs (name_start bs k) 0 = ap (name_start bs) (add-one k) in
    omega arith

-- the name at a place, where it is there whole, and what follows it
name_cut : (bs : List ℕ) (at : ℕ) → at + 1 + get_or bs at 0 ≤ length bs → drop at bs ≡ length (name_at bs at) ∷ (name_at bs at ++ drop (at + 1 + get_or bs at 0) bs)
name_cut bs at h =
    let len = get_or bs at 0 in
    let rest = drop (at + 1) bs in
    let size : length (name_at bs at) ≡ len = length-take-le len rest (omega (arith, length-drop (at + 1) bs)) in
    drop_more bs at 0 (omega arith)
    ∙ ap {B = List ℕ} (λ (l : List ℕ). len ∷ l) (sym (take-append-drop len rest) ∙ ap (λ (l : List ℕ). name_at bs at ++ l) (drop-drop len (at + 1) bs))
    ∙ ap {B = List ℕ} (λ (n : ℕ). n ∷ (name_at bs at ++ drop (at + 1 + len) bs)) (sym size)

names_as : {ws : List (List ℕ)} {xs ys rest tail : List ℕ} → xs ≡ ys → rest ≡ tail → Names xs ws rest → Names ys ws tail
names_as {ws = ws} {ys = ys} {rest = rest} p q d = subst (λ (t : List ℕ). Names ys ws t) q (subst (λ (t : List ℕ). Names t ws rest) p d)

-- n names from number k on, where all of them are words and lie within the block
pub names_derive : (bs : List ℕ) (n k m : ℕ) → k + n ≡ m → list_all (λ j. word (name_of bs j)) (range_with_len k n) ≡ true → name_start bs m ≤ length bs → Names (drop (name_start bs k) bs) (map (name_of bs) (range_with_len k n)) (drop (name_start bs m) bs)
names_derive bs zero k m e h l = names_as refl (ap (λ (i : ℕ). drop (name_start bs i) bs) (let q : k ≡ m = omega arith in q)) (no_name (drop (name_start bs k) bs))
names_derive bs (suc n) k m e h l =
    let at = name_start bs k in
    let parts = and_parts (word (name_of bs k)) _ h in
    let step : name_start bs (k + 1) ≡ at + 1 + get_or bs at 0 = ap (name_start bs) (add-one k) in
    let rise = starts_rise bs (k + 1) n m (omega arith) in
    let more = names_derive bs n (k + 1) m (omega arith) parts.1 l in
    let cut : drop at bs ≡ length (name_of bs k) ∷ (name_of bs k ++ drop (name_start bs (k + 1)) bs) =
    name_cut bs at (omega arith) ∙ ap {B = List ℕ} (λ (i : ℕ). length (name_of bs k) ∷ (name_of bs k ++ drop i bs)) (sym step) in
    names_as (sym cut) refl (a_name (name_of bs k) (drop (name_start bs (k + 1)) bs) (map (name_of bs) (range_with_len (k + 1) n)) (drop (name_start bs m) bs) parts.0 more)

-- seven bytes in front
seven : (xs : List ℕ) → 7 ≤ length xs → xs ≡ get_or xs 0 0 ∷ get_or xs 1 0 ∷ get_or xs 2 0 ∷ get_or xs 3 0 ∷ get_or xs 4 0 ∷ get_or xs 5 0 ∷ get_or xs 6 0 ∷ drop 7 xs
seven (a ∷ (b ∷ (c ∷ (d ∷ (e ∷ (f ∷ (g ∷ xs))))))) h = refl
seven (a ∷ (b ∷ (c ∷ (d ∷ (e ∷ (f ∷ [])))))) h = absurd (omega arith)
seven (a ∷ (b ∷ (c ∷ (d ∷ (e ∷ []))))) h = absurd (omega arith)
seven (a ∷ (b ∷ (c ∷ (d ∷ [])))) h = absurd (omega arith)
seven (a ∷ (b ∷ (c ∷ []))) h = absurd (omega arith)
seven (a ∷ (b ∷ [])) h = absurd (omega arith)
seven (a ∷ []) h = absurd (omega arith)
seven [] h = absurd (omega arith)

-- the seven bytes of a node, where it is there whole
pub row_cut : (bs : List ℕ) (at : ℕ) → at + 7 ≤ length bs → drop at bs ≡ name_number bs at ∷ node_depth bs at ∷ node_kind bs at ∷ get_or bs (at + 3) 0 ∷ get_or bs (at + 3 + 1) 0 ∷ get_or bs (at + 3 + 2) 0 ∷ get_or bs (at + 3 + 3) 0 ∷ drop (at + 7) bs
row_cut bs at h =
    let e : (i j : ℕ) → at + i ≡ j → get_or (drop at bs) i 0 ≡ get_or bs j 0 = λ i j q. get_or-drop at bs i 0 ∙ ap (λ (n : ℕ). get_or bs n 0) q in
    let e₀ = e 0 at (omega arith) in
    let e₁ = e 1 (at + 1) refl in
    let e₂ = e 2 (at + 2) refl in
    let e₃ = e 3 (at + 3) refl in
    let e₄ = e 4 (at + 3 + 1) (omega arith) in
    let e₅ = e 5 (at + 3 + 2) (omega arith) in
    let e₆ = e 6 (at + 3 + 3) (omega arith) in
    let r = drop-drop 7 at bs in
    let s = seven (drop at bs) (omega (arith, length-drop at bs)) in
    cc

no_size : (z : ℤ) → nat_abs z ≡ 0 → z ≡ pos 0
no_size (pos n) h = ap pos h
no_size (negsuc n) h = absurd (omega arith)

module _ (bs : List ℕ) (ws : List (List ℕ)) (count : name_count bs ≡ length ws) (named : (j : ℕ) → j < length ws → name_of bs j ≡ get_or ws j []) where
  rows_as : {xs ys : List ℕ} {ms ns : List Node} → xs ≡ ys → ms ≡ ns → Rows ws xs ms → Rows ws ys ns
  rows_as {ys = ys} {ms = ms} p q d = subst (λ (t : List Node). Rows ws ys t) q (subst (λ (t : List ℕ). Rows ws t ms) p d)

  module _ (at : ℕ) where
    -- one node in front
    row_derive : (rest : List Node) → at + 7 ≤ length bs → node_fits bs (name_count bs) at ≡ true → Rows ws (drop (at + 7) bs) rest → Rows ws (drop at bs) (node_at bs at ∷ rest)
    row_derive rest h f more =
        let k = name_number bs at in
        let depth = node_depth bs at in
        let kind = node_kind bs at in
        let z = node_thousandths bs at in
        let a = get_or bs (at + 3) 0 in
        let b = get_or bs (at + 3 + 1) 0 in
        let c = get_or bs (at + 3 + 2) 0 in
        let d = get_or bs (at + 3 + 3) 0 in
        let ys = drop (at + 7) bs in
        let parts = and_parts (ltb k (name_count bs)) _ f in
        let known : k < length ws = omega (arith, ltb-true k (name_count bs) parts.0) in
        let bytes : (x : ℕ) → kind ≡ x → k ∷ depth ∷ x ∷ a ∷ b ∷ c ∷ d ∷ ys ≡ drop at bs =
        λ x e. sym (row_cut bs at h ∙ ap {B = List ℕ} (λ (y : ℕ). k ∷ depth ∷ y ∷ a ∷ b ∷ c ∷ d ∷ ys) e) in
        let nodes : (v : Option ℤ) → ◌≡◌ {A = List Node} (record { name = get_or ws k []; depth = depth; value = v } ∷ rest) (record { name = name_of bs k; depth = depth; value = v } ∷ rest) =
        λ v. ap {B = List Node} (λ (n : List ℕ). record { name = n; depth = depth; value = v } ∷ rest) (sym (named k known)) in
        (elim (eqb kind leaf) as (λ t. eqb kind leaf ≡ t → cond t (leb (nat_abs z) greatest_thousandths) (eqb kind branch && eqb (nat_abs z) 0) ≡ true → Rows ws (drop at bs) (record { name = name_of bs k; depth = depth; value = cond t (Some (hundredths z)) None } ∷ rest)) [
          | true ↦ λ q s.
              rows_as (bytes leaf (eqb-true kind leaf q)) (nodes (Some (hundredths z)))
              (a_leaf k depth a b c d ys rest known (leb-true (nat_abs z) greatest_thousandths s) more)
          | false ↦ λ q s.
              let both = and_parts (eqb kind branch) (eqb (nat_abs z) 0) s in
              rows_as (bytes branch (eqb-true kind branch both.0)) (nodes None)
              (a_branch k depth a b c d ys rest known (no_size z (eqb-true (nat_abs z) 0 both.1)) more)
        ]) refl parts.1

  -- n nodes from number i on, where all of them fit and nothing follows them
  pub rows_derive : (n i : ℕ) → list_all (λ j. node_fits bs (name_count bs) (node_start bs j)) (range_with_len i n) ≡ true → node_start bs i + 7 * n ≡ length bs → Rows ws (drop (node_start bs i) bs) (map (λ j. node_at bs (node_start bs j)) (range_with_len i n))
  rows_derive zero i h l = rows_as (sym (drop_all (node_start bs i) bs (omega arith))) refl no_row
  rows_derive (suc n) i h l =
      let at = node_start bs i in
      let parts = and_parts (node_fits bs (name_count bs) at) _ h in
      let place : node_start bs (i + 1) ≡ at + 7 = omega arith in
      let more = rows_derive n (i + 1) parts.1 (omega arith) in
      row_derive at (map (λ j. node_at bs (node_start bs j)) (range_with_len (i + 1) n)) (omega arith) parts.0 (rows_as (ap (λ (k : ℕ). drop k bs) place) refl more)
