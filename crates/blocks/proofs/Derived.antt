-- What the layout derives is a good block with those nodes.
use Rattle.std.proofs.Common.{◌≡◌, ℕ, zero, suc, ◌+◌, ◌*◌, ◌<◌, true, cond, eqb, ltb, List, [], ◌∷◌, ◌++◌, map, length, get_or, take, drop, ℤ, nat_abs, Some, None, sym, refl, ap, ◌∙◌, add-one, arith}
use Rattle.std.specs.List.{range_with_len, list_all}
use Rattle.std.proofs.lemmas.List.{drop_at, drop-drop, get_or-drop, take_at}
use Rattle.std.proofs.lemmas.Bool.{and_from, le-leb, lt-ltb}
use Rattle.lexical.specs.Rounding.{hundredths}
use Rattle.lexical.specs.Words.{word}
use Rattle.records.specs.Nodes.{Node}
use Rattle.blocks.specs.Layout.{greatest_thousandths, branch, leaf, number32, Names, no_name, a_name, Rows, no_row, a_branch, a_leaf}
use Rattle.blocks.specs.Places.{name_count, name_start, name_of, node_start, name_number, node_depth, node_kind, node_thousandths, node_value, node_at, node_fits, size_fits}

-- bytes whose part from a place on is known
module _ (bs : List ℕ) (at : ℕ) (xs : List ℕ) (h : drop at bs ≡ xs) where
  pub byte_at : (i j : ℕ) → at + i ≡ j → get_or bs j 0 ≡ get_or xs i 0
  byte_at i j e = ap (λ (n : ℕ). get_or bs n 0) (sym e) ∙ sym (get_or-drop at bs i 0) ∙ ap (λ (l : List ℕ). get_or l i 0) h

  pub rest_at : (i j : ℕ) → at + i ≡ j → drop j bs ≡ drop i xs
  rest_at i j e = ap (λ (n : ℕ). drop n bs) (sym e) ∙ sym (drop-drop i at bs) ∙ ap (drop i) h

-- the names from number k on are ws, and rest follows them
pub record Reads (bs : List ℕ) (k : ℕ) (ws : List (List ℕ)) (rest : List ℕ) : Type 0 where
  pub words : list_all (λ i. word (name_of bs i)) (range_with_len k (length ws)) ≡ true
  pub named : (j i : ℕ) → k + j ≡ i → j < length ws → name_of bs i ≡ get_or ws j []
  pub after : (n : ℕ) → k + length ws ≡ n → drop (name_start bs n) bs ≡ rest

pub names_read : {xs rest : List ℕ} {ws : List (List ℕ)} → Names xs ws rest → (bs : List ℕ) (k : ℕ) → drop (name_start bs k) bs ≡ xs → Reads bs k ws rest
names_read (no_name rest) bs k h = record {
  words = refl;
  named = λ j i e l. absurd (omega arith);
  after = λ n e. ap (λ (m : ℕ). drop (name_start bs m) bs) (let q : n ≡ k = omega arith in q) ∙ h;
}
names_read (a_name w xs ws rest is_IsWord more) bs k h =
    let at = name_start bs k in
    let len : get_or bs at 0 ≡ length w = byte_at bs at (length w ∷ (w ++ xs)) h 0 at (omega arith) in
    let body : drop (at + 1) bs ≡ w ++ xs = rest_at bs at (length w ∷ (w ++ xs)) h 1 (at + 1) (omega arith) in
    let name : name_of bs k ≡ w = ap (λ (n : ℕ). take n (drop (at + 1) bs)) len ∙ ap (take (length w)) body ∙ take_at w xs (length w) refl in
    let next : name_start bs (k + 1) ≡ at + 1 + length w = ap (name_start bs) (add-one k) ∙ ap (λ (n : ℕ). at + 1 + n) len in
    let then : drop (name_start bs (k + 1)) bs ≡ xs =
    rest_at bs (at + 1) (w ++ xs) body (length w) (name_start bs (k + 1)) (sym next) ∙ drop_at w xs (length w) refl in
    let r = names_read more bs (k + 1) then in
    record {
      words = and_from (word (name_of bs k)) _ (ap word name ∙ is_IsWord) r.words;
      named = λ j i e l. named_from bs k w ws name r.named j i e l;
      after = λ n e. r.after n (omega arith);
    }
  where
    named_from : (bs : List ℕ) (k : ℕ) (w : List ℕ) (ws : List (List ℕ)) → name_of bs k ≡ w → ((j i : ℕ) → (k + 1) + j ≡ i → j < length ws → name_of bs i ≡ get_or ws j []) → (j i : ℕ) → k + j ≡ i → j < length (w ∷ ws) → name_of bs i ≡ get_or (w ∷ ws) j []
    named_from bs k w ws name more zero i e l = ap (name_of bs) (let q : i ≡ k = omega arith in q) ∙ name
    named_from bs k w ws name more (suc j) i e l = more j i (omega arith) (omega arith)

-- under names that are read so, the nodes from number i on are ns, and nothing follows them
module _ (bs : List ℕ) (ws : List (List ℕ)) (count : name_count bs ≡ length ws) (named : (j : ℕ) → j < length ws → name_of bs j ≡ get_or ws j []) where
  pub record Tells (i : ℕ) (ys : List ℕ) (ns : List Node) : Type 0 where
    pub fit : list_all (λ j. node_fits bs (name_count bs) (node_start bs j)) (range_with_len i (length ns)) ≡ true
    pub nodes : map (λ j. node_at bs (node_start bs j)) (range_with_len i (length ns)) ≡ ns
    pub size : length ys ≡ 7 * length ns

  -- one node, from its bytes
  module _ (at k depth kind a b c d : ℕ) (rest : List ℕ) (h : drop at bs ≡ k ∷ depth ∷ kind ∷ a ∷ b ∷ c ∷ d ∷ rest) where
    abbrev row : List ℕ
    row = k ∷ depth ∷ kind ∷ a ∷ b ∷ c ∷ d ∷ rest

    row_number : name_number bs at ≡ k
    row_number = byte_at bs at row h 0 at (omega arith)

    row_depth : node_depth bs at ≡ depth
    row_depth = byte_at bs at row h 1 (at + 1) refl

    row_kind : node_kind bs at ≡ kind
    row_kind = byte_at bs at row h 2 (at + 2) refl

    row_value : node_thousandths bs at ≡ number32 a b c d
    row_value =
        let v : drop (at + 3) bs ≡ a ∷ b ∷ c ∷ d ∷ rest = rest_at bs at row h 3 (at + 3) refl in
        let vs : List ℕ = a ∷ b ∷ c ∷ d ∷ rest in
        ap (λ (x : ℕ). number32 x (get_or bs (at + 3 + 1) 0) (get_or bs (at + 3 + 2) 0) (get_or bs (at + 3 + 3) 0)) (byte_at bs (at + 3) vs v 0 (at + 3) (omega arith))
        ∙ ap (λ (x : ℕ). number32 a x (get_or bs (at + 3 + 2) 0) (get_or bs (at + 3 + 3) 0)) (byte_at bs (at + 3) vs v 1 (at + 3 + 1) refl)
        ∙ ap (λ (x : ℕ). number32 a b x (get_or bs (at + 3 + 3) 0)) (byte_at bs (at + 3) vs v 2 (at + 3 + 2) refl)
        ∙ ap (λ (x : ℕ). number32 a b c x) (byte_at bs (at + 3) vs v 3 (at + 3 + 3) refl)

    row_fits : k < length ws → size_fits kind (nat_abs (number32 a b c d)) ≡ true → node_fits bs (name_count bs) at ≡ true
    row_fits l s =
        and_from (ltb (name_number bs at) (name_count bs)) _
        (lt-ltb (name_number bs at) (name_count bs) (omega (arith, row_number)))
        (ap (λ (x : ℕ). size_fits x (nat_abs (node_thousandths bs at))) row_kind ∙ ap (λ (z : ℤ). size_fits kind (nat_abs z)) row_value ∙ s)

    row_node : k < length ws → node_at bs at ≡ record { name = get_or ws k []; depth = depth; value = cond (eqb kind leaf) (Some (hundredths (number32 a b c d))) None }
    row_node l =
        ap {B = Node} (λ (n : List ℕ). record { name = n; depth = node_depth bs at; value = node_value bs at }) (ap (name_of bs) row_number ∙ named k l)
        ∙ ap {B = Node} (λ (n : ℕ). record { name = get_or ws k []; depth = n; value = node_value bs at }) row_depth
        ∙ ap {B = Node} (λ (n : ℕ). record { name = get_or ws k []; depth = depth; value = cond (eqb n leaf) (Some (hundredths (node_thousandths bs at))) None }) row_kind
        ∙ ap {B = Node} (λ (z : ℤ). record { name = get_or ws k []; depth = depth; value = cond (eqb kind leaf) (Some (hundredths z)) None }) row_value

  -- one node more in front
  tells_more : (i : ℕ) (n : Node) (ns : List Node) (y₀ y₁ y₂ y₃ y₄ y₅ y₆ : ℕ) (ys : List ℕ) → node_fits bs (name_count bs) (node_start bs i) ≡ true → node_at bs (node_start bs i) ≡ n → Tells (i + 1) ys ns → Tells i (y₀ ∷ y₁ ∷ y₂ ∷ y₃ ∷ y₄ ∷ y₅ ∷ y₆ ∷ ys) (n ∷ ns)
  tells_more i n ns y₀ y₁ y₂ y₃ y₄ y₅ y₆ ys f e t = record {
    fit = and_from (node_fits bs (name_count bs) (node_start bs i)) _ f t.fit;
    nodes = ap {B = List Node} (λ (m : Node). m ∷ map (λ j. node_at bs (node_start bs j)) (range_with_len (i + 1) (length ns))) e ∙ ap {B = List Node} (λ (l : List Node). n ∷ l) t.nodes;
    size = let s = t.size in omega arith;
  }

  pub rows_tell : {ys : List ℕ} {ns : List Node} → Rows ws ys ns → (i : ℕ) → drop (node_start bs i) bs ≡ ys → Tells i ys ns
  rows_tell no_row i h = record { fit = refl; nodes = refl; size = refl }
  rows_tell (a_branch k depth a b c d ys ns l z more) i h =
      let at = node_start bs i in
      let then : drop (node_start bs (i + 1)) bs ≡ ys = rest_at bs at (k ∷ depth ∷ branch ∷ a ∷ b ∷ c ∷ d ∷ ys) h 7 (node_start bs (i + 1)) (omega arith) in
      tells_more i _ ns k depth branch a b c d ys
      (row_fits at k depth branch a b c d ys h l (ap (λ (v : ℤ). size_fits branch (nat_abs v)) z))
      (row_node at k depth branch a b c d ys h l)
      (rows_tell more (i + 1) then)
  rows_tell (a_leaf k depth a b c d ys ns l z more) i h =
      let at = node_start bs i in
      let then : drop (node_start bs (i + 1)) bs ≡ ys = rest_at bs at (k ∷ depth ∷ leaf ∷ a ∷ b ∷ c ∷ d ∷ ys) h 7 (node_start bs (i + 1)) (omega arith) in
      tells_more i _ ns k depth leaf a b c d ys
      (row_fits at k depth leaf a b c d ys h l (le-leb (nat_abs (number32 a b c d)) greatest_thousandths z))
      (row_node at k depth leaf a b c d ys h l)
      (rows_tell more (i + 1) then)
