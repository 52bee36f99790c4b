-- A test of every number of a run.
use Rattle.std.proofs.Common.{◌≡◌, ℕ, zero, suc, ◌+◌, ◌-◌, ◌<◌, ◌≤◌, Bool, true, ◌&&◌, sym, ap, ◌∙◌, inl, inr, arith}
use Rattle.std.specs.List.{range_with_len, list_all}
use Rattle.std.proofs.lemmas.Bool.{and_parts, cases_eq}

module _ (p : ℕ → Bool) (i n : ℕ) where
  all_more : i < n → list_all p (range_with_len i (n - i)) ≡ (p i && list_all p (range_with_len (i + 1) (n - (i + 1))))
  all_more h = let e : n - i ≡ suc (n - (i + 1)) = omega arith in ap (λ (k : ℕ). list_all p (range_with_len i k)) e

  pub all_next : i < n → p i ≡ true → list_all p (range_with_len i (n - i)) ≡ list_all p (range_with_len (i + 1) (n - (i + 1)))
  all_next h e = all_more h ∙ ap (λ (b : Bool). b && list_all p (range_with_len (i + 1) (n - (i + 1)))) e

-- each number of the run passes
pub all_at : (p : ℕ → Bool) (i k j : ℕ) → list_all p (range_with_len i k) ≡ true → i ≤ j → j < i + k → p j ≡ true
all_at p i zero j h l m = absurd (omega arith)
all_at p i (suc k) j h l m =
    let parts = and_parts (p i) (list_all p (range_with_len (i + 1) k)) h in
    elim (cases_eq i j) [ inl e ↦ ap p (sym e) ∙ parts.0 | inr n ↦ all_at p (i + 1) k j parts.1 (omega arith) (omega arith) ]
