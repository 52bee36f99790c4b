-- The lines of a record, one node after another.
use Rattle.std.proofs.Common.{◌≡◌, ℕ, suc, ◌+◌, ◌-◌, ◌<◌, ◌≤◌, List, ◌++◌, sym, ap, ◌∙◌, append_assoc, append-nil, arith}
use Rattle.records.specs.Nodes.{Node}
use Rattle.reports.specs.Rows.{Naming, record_line, record_lines}

module _ (f : Naming) (ns : List Node) (ps : List ℕ) (m i : ℕ) (o all : List ℕ) (inv : o ++ record_lines f ns ps i (m - i) ≡ all) where
  -- one more line
  pub one_line_more : i < m → (o' : List ℕ) → o' ≡ o ++ record_line f ns ps i → o' ++ record_lines f ns ps (i + 1) (m - (i + 1)) ≡ all
  one_line_more h o' e =
      let z : m - i ≡ suc (m - (i + 1)) = omega arith in
      let rest : List ℕ = record_lines f ns ps (i + 1) (m - (i + 1)) in
      ap (λ x. x ++ rest) e ∙ (append_assoc o (record_line f ns ps i) rest ∙ (ap (λ k. o ++ record_lines f ns ps i k) (sym z) ∙ inv))

  -- after the last line
  pub all_lines : m ≤ i → o ≡ all
  all_lines h =
      let z : m - i ≡ 0 = omega arith in
      sym (append-nil o) ∙ (ap (λ k. o ++ record_lines f ns ps i k) (sym z) ∙ inv)
