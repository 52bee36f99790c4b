-- The nodes of a block, one after another.
use Rattle.std.proofs.Common.{◌≡◌, ℕ, zero, suc, ◌+◌, ◌*◌, ◌-◌, ◌/◌, ◌<◌, ◌≤◌, Bool, true, false, cond, ◌&&◌, eqb, ltb, leb, List, [], map, length, get_or, take, drop, ℤ, pos, negsuc, neg_ℤ, nat_abs, Some, None, Option, MatchOption, sym, refl, subst, ap, ◌∙◌, arith, length-drop}
use Rattle.std.specs.List.{range_with_len, list_all}
use Rattle.std.specs.Simd.{first_chunks}
use Rattle.std.proofs.lemmas.List.{drop-drop, take_rest}
use Rattle.std.proofs.Math.Nat.{mul-div_cancel_left}
use Rattle.std.proofs.lemmas.Bool.{and_parts, eq-eqb, le-leb, leb-true, ltb-true}
use Rattle.lexical.specs.Rounding.{hundredths, nearest}
use Rattle.lexical.specs.Words.{word}
use Rattle.records.specs.Limits.{greatest_value, most_levels, most_nodes}
use Rattle.records.specs.Nodes.{next_depth, ranged, shaped}
use Rattle.blocks.specs.Layout.{branch, greatest_thousandths, leaf, most_names}
use Rattle.blocks.specs.Places.{all_fit, all_words, block_nodes, good_block, name_count, name_of, name_number, node_at, node_count, node_depth, node_fits, node_kind, node_start, node_thousandths, node_value, size_fits}
use Rattle.blocks.specs.Reading.{follows, room_after, room_of, row_at, row_of}
use Rattle.blocks.specs.declared.plan.Plan.{Plan}
use Rattle.blocks.specs.declared.row.Row.{Row}
use Rattle.blocks.proofs.Alls.{all_at}
use Rattle.blocks.proofs.Deriving.{row_cut}

-- the greatest depth that may follow it
abbrev pub next_room : List ℕ → ℕ → ℕ
next_room bs at = next_depth (node_value bs at) (node_depth bs at)

-- k nodes from i on fit, the first at depth m at most
abbrev pub run : List ℕ → ℕ → ℕ → ℕ → Bool
run bs m i zero = true
run bs m i (suc k) = follows bs (node_start bs i) m && run bs (next_room bs (node_start bs i)) (i + 1) k

neg_size : (n : ℕ) → nat_abs (neg_ℤ (pos n)) ≡ n
neg_size zero = refl
neg_size (suc n) = refl

-- rounding keeps the range
pub rounded_in_range : (z : ℤ) → nat_abs z ≤ greatest_thousandths → nat_abs (hundredths z) ≤ greatest_value
rounded_in_range (pos n) h = omega arith
rounded_in_range (negsuc n) h = let e = neg_size (nearest (suc n)) in let l : nearest (suc n) ≤ greatest_value = omega arith in omega arith

-- a value that fits its kind is in range
value_ranged : (k : ℕ) (z : ℤ) → size_fits k (nat_abs z) ≡ true → ranged (cond (eqb k leaf) (Some (hundredths z)) None) ≡ true
value_ranged k z =
    elim (eqb k leaf) as (λ b. cond b (leb (nat_abs z) greatest_thousandths) (eqb k branch && eqb (nat_abs z) 0) ≡ true → ranged (cond b (Some (hundredths z)) None) ≡ true) [
      | true ↦ λ h. le-leb (nat_abs (hundredths z)) greatest_value (rounded_in_range z (leb-true (nat_abs z) greatest_thousandths h))
      | false ↦ λ h. refl
    ]

shuffle : (x y a s : Bool) → ((x && y) && (a && s)) ≡ (a && (x && ((y && true) && s)))
shuffle true true a s = refl
shuffle true false true s = refl
shuffle true false false s = refl
shuffle false y true s = refl
shuffle false y false s = refl

module _ (bs : List ℕ) (words : all_words bs (name_count bs) ≡ true) where
  fit_word : (at : ℕ) → node_fits bs (name_count bs) at ≡ true → word (name_of bs (name_number bs at)) ≡ true
  fit_word at h =
      let l = ltb-true (name_number bs at) (name_count bs) (and_parts (ltb (name_number bs at) (name_count bs)) _ h).0 in
      all_at (λ k. word (name_of bs k)) 0 (name_count bs) (name_number bs at) words (omega arith) (omega arith)

  fit_ranged : (at : ℕ) → node_fits bs (name_count bs) at ≡ true → ranged (node_value bs at) ≡ true
  fit_ranged at h = value_ranged (node_kind bs at) (node_thousandths bs at) (and_parts (ltb (name_number bs at) (name_count bs)) _ h).1

  -- a run that fits is one of nodes that fit, in the shape of records
  run_is : (m i k : ℕ) → run bs m i k ≡ (list_all (λ j. node_fits bs (name_count bs) (node_start bs j)) (range_with_len i k) && shaped m (map (λ j. node_at bs (node_start bs j)) (range_with_len i k)))
  run_is m i zero = refl
  run_is m i (suc k) =
      let at = node_start bs i in
      let x = leb (node_depth bs at) m in
      let y = ltb (node_depth bs at) most_levels in
      let rest = map (λ j. node_at bs (node_start bs j)) (range_with_len (i + 1) k) in
      let A = list_all (λ j. node_fits bs (name_count bs) (node_start bs j)) (range_with_len (i + 1) k) in
      let R = run bs (next_room bs at) (i + 1) k in
      let S = shaped (next_depth (node_value bs at) (node_depth bs at)) rest in
      let w = word (name_of bs (name_number bs at)) in
      let g = ranged (node_value bs at) in
      elim (node_fits bs (name_count bs) at) as (λ t. node_fits bs (name_count bs) at ≡ t → ((t && (x && y)) && R) ≡ ((t && A) && (x && ((w && (y && g)) && S)))) [
        | true ↦ λ h.
            ap (λ (r : Bool). (x && y) && r) (run_is (next_room bs at) (i + 1) k)
            ∙ shuffle x y A (shaped (next_room bs at) rest)
            ∙ ap (λ (t : Bool). A && (x && ((t && (y && true)) && S))) (sym (fit_word at h))
            ∙ ap (λ (t : Bool). A && (x && ((w && (y && t)) && S))) (sym (fit_ranged at h))
        | false ↦ λ h. refl
      ] refl

-- where all but the nodes is good, they decide
module _ (bs : List ℕ) (few_names : name_count bs ≤ most_names) (words : all_words bs (name_count bs) ≡ true) (few_nodes : node_count bs ≤ most_nodes) (whole : length bs ≡ node_start bs (node_count bs)) where
  nodes_decide : good_block bs ≡ (all_fit bs (node_count bs) && shaped 0 (block_nodes bs))
  nodes_decide =
      ap (λ (t : Bool). t && (all_words bs (name_count bs) && (leb (node_count bs) most_nodes && (eqb (length bs) (node_start bs (node_count bs)) && (all_fit bs (node_count bs) && shaped 0 (block_nodes bs)))))) (le-leb (name_count bs) most_names few_names)
      ∙ ap (λ (t : Bool). t && (leb (node_count bs) most_nodes && (eqb (length bs) (node_start bs (node_count bs)) && (all_fit bs (node_count bs) && shaped 0 (block_nodes bs))))) words
      ∙ ap (λ (t : Bool). t && (eqb (length bs) (node_start bs (node_count bs)) && (all_fit bs (node_count bs) && shaped 0 (block_nodes bs)))) (le-leb (node_count bs) most_nodes few_nodes)
      ∙ ap (λ (t : Bool). t && (all_fit bs (node_count bs) && shaped 0 (block_nodes bs))) (eq-eqb (length bs) (node_start bs (node_count bs)) whole)

  run_decides : (t : Bool) → run bs 0 0 (node_count bs) ≡ t → t ≡ good_block bs
  run_decides t r = sym r ∙ run_is bs words 0 0 (node_count bs) ∙ sym nodes_decide

-- the same of a plan
pub plan_decides : (x : Plan) (t : Bool) → run x.block.now 0 0 (node_count x.block.now) ≡ t → t ≡ good_block x.block.now
plan_decides x t r =
    let named = x.named in
    let few_names = x.few_names in
    run_decides x.block.now (omega arith) x.words x.few x.whole t r

-- a node is read from the bytes at its place
module _ (bs : List ℕ) where
  chunk_at : (k i : ℕ) (xs : List ℕ) → i < k → get_or (first_chunks 7 k xs) i [] ≡ take 7 (drop (7 * i) xs)
  chunk_at zero i xs h = absurd (omega arith)
  chunk_at (suc k) zero xs h = refl
  chunk_at (suc k) (suc i) xs h = chunk_at k i (drop 7 xs) (omega arith) ∙ ap (take 7) (drop-drop (7 * i) 7 xs ∙ ap (λ (n : ℕ). drop n xs) (omega arith))

  -- the bytes from a place on, which are k nodes
  module _ (first k : ℕ) (whole : length bs ≡ first + 7 * k) (nodes : List (List ℕ)) where
    abbrev rest : List ℕ
    rest = take (length bs - first) (drop first bs)

    rest_count : length rest / 7 ≡ k
    rest_count =
        let size : length rest ≡ 7 * k = ap length (take_rest bs first) ∙ length-drop first bs ∙ omega arith in
        ap (λ (n : ℕ). n / 7) size ∙ mul-div_cancel_left k (omega arith)

    pub nodes_count : length nodes ≡ length rest / 7 → length nodes ≡ k
    nodes_count l = l ∙ rest_count

    pub row_read : first ≡ node_start bs 0 → nodes ≡ first_chunks 7 (length rest / 7) rest → (i : ℕ) → i < k → row_of (get_or nodes i []) ≡ row_at bs (node_start bs i)
    row_read e cut i h =
        let at = node_start bs i in
        let place : first + 7 * i ≡ at = omega arith in
        ap (λ (l : List (List ℕ)). row_of (get_or l i [])) (cut ∙ ap (λ (n : ℕ). first_chunks 7 n rest) rest_count ∙ ap (first_chunks 7 k) (take_rest bs first))
        ∙ ap row_of (chunk_at k i (drop first bs) h)
        ∙ ap (λ (l : List ℕ). row_of (take 7 l)) (drop-drop (7 * i) first bs ∙ ap (λ (n : ℕ). drop n bs) place)
        ∙ ap (λ (l : List ℕ). row_of (take 7 l)) (row_cut bs at (omega arith))

-- what follows a node, from its bytes
module _ (bs : List ℕ) (at m : ℕ) where
  room_told : (r : Option ℕ) → MatchOption (row_at bs at) (r ≡ None) (λ row. r ≡ room_of (name_count bs) m row) → r ≡ room_after bs at m
  room_told r =
      let x = ltb (name_number bs at) (name_count bs) in
      let y = leb (node_depth bs at) m && ltb (node_depth bs at) most_levels in
      let next : Option ℕ = Some (next_room bs at) in
      let row : Row = record { name = name_number bs at; depth = node_depth bs at; value = node_value bs at } in
      elim (size_fits (node_kind bs at) (nat_abs (node_thousandths bs at))) as (λ s. MatchOption (cond s (Some row) None) (r ≡ None) (λ row. r ≡ room_of (name_count bs) m row) → r ≡ cond ((x && s) && y) next None) [
        | true ↦ elim x as (λ t. r ≡ cond (t && y) next None → r ≡ cond ((t && true) && y) next None) [ true ↦ λ h. h | false ↦ λ h. h ]
        | false ↦ elim x as (λ t. r ≡ None → r ≡ cond ((t && false) && y) next None) [ true ↦ λ h. h | false ↦ λ h. h ]
      ]

pub plan_room : (x : Plan) (i m : ℕ) (r : Option ℕ) → i < node_count x.block.now → MatchOption (row_of (get_or x.nodes.now i [])) (r ≡ None) (λ row. r ≡ room_of x.names m row) → r ≡ room_after x.block.now (node_start x.block.now i) m
plan_room x i m r h told =
    let at = node_start x.block.now i in
    room_told x.block.now at m r
    (subst (λ (k : ℕ). MatchOption (row_at x.block.now at) (r ≡ None) (λ row. r ≡ room_of k m row)) x.named
    (subst (λ (o : Option Row). MatchOption o (r ≡ None) (λ row. r ≡ room_of x.names m row)) (x.rows i h) told))

-- what a node's answer says of the run that it begins
module _ (bs : List ℕ) (m i n : ℕ) where
  abbrev there : Bool
  there = follows bs (node_start bs i) m

  run_more : i < n → run bs m i (n - i) ≡ (there && run bs (next_room bs (node_start bs i)) (i + 1) (n - (i + 1)))
  run_more h = let e : n - i ≡ suc (n - (i + 1)) = omega arith in ap (run bs m i) e

  pub run_fails : i < n → ◌≡◌ {A = Option ℕ} (room_after bs (node_start bs i) m) None → run bs m i (n - i) ≡ false
  run_fails h e =
      run_more h
      ∙ (elim there as (λ t. ◌≡◌ {A = Option ℕ} (cond t (Some (next_room bs (node_start bs i))) None) None → (t && run bs (next_room bs (node_start bs i)) (i + 1) (n - (i + 1))) ≡ false) [
        | true ↦ λ q. cc
        | false ↦ λ q. refl
      ]) e

  pub run_next : (d : ℕ) → i < n → room_after bs (node_start bs i) m ≡ Some d → run bs m i (n - i) ≡ run bs d (i + 1) (n - (i + 1))
  run_next d h e =
      run_more h
      ∙ (elim there as (λ t. cond t (Some (next_room bs (node_start bs i))) None ≡ Some d → (t && run bs (next_room bs (node_start bs i)) (i + 1) (n - (i + 1))) ≡ run bs d (i + 1) (n - (i + 1))) [
        | true ↦ λ q. let r : next_room bs (node_start bs i) ≡ d = cc in ap (λ (x : ℕ). run bs x (i + 1) (n - (i + 1))) r
        | false ↦ λ q. cc
      ]) e

  pub run_done : n ≤ i → run bs m i (n - i) ≡ true
  run_done h = let e : n - i ≡ 0 = omega arith in ap (run bs m i) e
