-- Sums of values.
use Rattle.std.proofs.Common.{◌≡◌, ℕ, suc, ◌+◌, ◌-◌, ◌*◌, ◌<◌, ◌≤◌, true, ltb, List, length, get_or, drop, ℤ, pos, negsuc, ◌+ℤ◌, nat_abs, Some, None, Option, sym, ap, ◌∙◌, arith, w64, SFits, to_z, of_z}
use lib.IntN.{+ℤ_assoc, +ℤ_idr}
use Rattle.std.proofs.lemmas.Int.{to_z-of_z}
use Rattle.std.proofs.lemmas.List.{drop_more, drop_all}
use Rattle.std.proofs.lemmas.Bool.{leb-true, ltb-true, cond_both}
use Rattle.records.specs.Limits.{greatest_value}
use Rattle.records.specs.Nodes.{Node, no_node, ranged, value_at, Shape}
use Rattle.records.specs.Shapes.{proper_at, proper_ranged}
use Rattle.records.specs.Sums.{worth, total_of}

sub_size : (a b : ℕ) → nat_abs (lib.IntN.sub_ℕ a b) ≤ a + b
sub_size a b = cond_both (ltb a b) (negsuc (b - suc a)) (pos (a - b)) (λ z. nat_abs z ≤ a + b) (λ e. omega (arith, ltb-true a b e)) (λ e. omega arith)

pub size_add : (a b : ℤ) → nat_abs (a +ℤ b) ≤ nat_abs a + nat_abs b
size_add (pos a) (pos b) = omega arith
size_add (pos a) (negsuc b) = sub_size a (suc b)
size_add (negsuc a) (pos b) = let h = sub_size b (suc a) in omega arith
size_add (negsuc a) (negsuc b) = omega arith

pub small_fits : (z : ℤ) → nat_abs z ≤ 50000000000 → SFits w64 z
small_fits (pos n) h = record { sfits = omega arith }
small_fits (negsuc n) h = record { sfits = omega arith }

pub ranged_size : (v : Option ℤ) → ranged v ≡ true → nat_abs (worth v) ≤ greatest_value
ranged_size None h = omega arith
ranged_size (Some z) h = leb-true (nat_abs z) greatest_value h

module _ (ns : List Node) (i : ℕ) where
  pub value_size : Shape ns → i < length ns → nat_abs (worth (value_at ns i)) ≤ greatest_value
  value_size s h = ranged_size (value_at ns i) (proper_ranged (get_or ns i no_node) (proper_at 0 ns i s.1 h))

  pub total_more : (sum : ℤ) → i < length ns → sum +ℤ total_of (drop i ns) ≡ (sum +ℤ worth (value_at ns i)) +ℤ total_of (drop (i + 1) ns)
  total_more sum h = ap (λ (l : List Node). sum +ℤ total_of l) (drop_more ns i no_node h) ∙ sym (+ℤ_assoc sum (worth (value_at ns i)) (total_of (drop (i + 1) ns)))

  pub total_end : (sum : ℤ) → length ns ≤ i → sum +ℤ total_of (drop i ns) ≡ sum
  total_end sum h = ap (λ (l : List Node). sum +ℤ total_of l) (drop_all i ns h) ∙ +ℤ_idr sum

-- a loop's step at a leaf: B is what is added, as its bits give it back
module _ (ns : List Node) (i : ℕ) (shape : Shape ns) (h : i < length ns) (S r z : ℤ) (bound : nat_abs S ≤ greatest_value * i) (is : value_at ns i ≡ Some z) (from : r ≡ z) where
  pub leaf_size : nat_abs r ≤ greatest_value
  leaf_size = let a = value_size ns i shape h in let b = ap (λ (t : Option ℤ). nat_abs (worth t)) is in let e = ap nat_abs from in omega arith

  pub leaf_bits : to_z w64 (of_z w64 r) ≡ r
  leaf_bits = let l = leaf_size in to_z-of_z w64 r (small_fits r (omega arith))

  pub leaf_sum : nat_abs (S +ℤ to_z w64 (of_z w64 r)) ≤ greatest_value * (i + 1)
  leaf_sum = let l = leaf_size in let e = ap nat_abs leaf_bits in let a = size_add S (to_z w64 (of_z w64 r)) in omega arith

  pub leaf_fits : SFits w64 (S +ℤ to_z w64 (of_z w64 r))
  leaf_fits = let l = leaf_sum in let few = shape.0 in small_fits (S +ℤ to_z w64 (of_z w64 r)) (omega arith)

  pub leaf_more : (T S' : ℤ) → S +ℤ total_of (drop i ns) ≡ T → S' ≡ to_z w64 (of_z w64 (S +ℤ to_z w64 (of_z w64 r))) → (S' +ℤ total_of (drop (i + 1) ns) ≡ T) × (nat_abs S' ≤ greatest_value * (i + 1))
  leaf_more T S' inv e =
      let back : S' ≡ S +ℤ to_z w64 (of_z w64 r) = e ∙ to_z-of_z w64 (S +ℤ to_z w64 (of_z w64 r)) leaf_fits in
      let w : S' ≡ S +ℤ worth (value_at ns i) = back ∙ ap (λ (t : ℤ). S +ℤ t) (leaf_bits ∙ from ∙ sym (ap worth is)) in
      let l = leaf_sum in
      let q = ap nat_abs back in
      (ap (λ (t : ℤ). t +ℤ total_of (drop (i + 1) ns)) w ∙ sym (total_more ns i S h) ∙ inv, omega arith)

-- at a branch
pub branch_more : (ns : List Node) (i : ℕ) → i < length ns → (S S' T : ℤ) → nat_abs S ≤ greatest_value * i → value_at ns i ≡ None → S +ℤ total_of (drop i ns) ≡ T → S' ≡ S → (S' +ℤ total_of (drop (i + 1) ns) ≡ T) × (nat_abs S' ≤ greatest_value * (i + 1))
branch_more ns i h S S' T bound none inv e =
    let w : S' ≡ S +ℤ worth (value_at ns i) = e ∙ sym (+ℤ_idr S) ∙ ap (λ (t : Option ℤ). S +ℤ worth t) (sym none) in
    let q = ap nat_abs e in
    (ap (λ (t : ℤ). t +ℤ total_of (drop (i + 1) ns)) w ∙ sym (total_more ns i S h) ∙ inv, omega arith)
