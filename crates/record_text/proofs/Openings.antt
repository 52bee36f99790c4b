-- There is one answer to a text and a list, and one list afterwards.
use Rattle.std.proofs.Common.{◌≡◌, ℕ, ◌<◌, cond, leb, ◌⊎◌, List, [], ◌∷◌, ◌++◌, length, drop, Ok, Err, Result, sym, refl, ap, ◌∙◌, subst, inl, inr, arith}
use Rattle.std.proofs.lemmas.Bool.{le-leb, lt-leb}
use Rattle.refusals.specs.declared.Refusal.{Refusal}
use Rattle.refusals.specs.declared.Refusal.TheVariants as refusal
use Rattle.refusals.specs.Refusals.{number, places}
use Rattle.record_text.specs.declared.entry.Entry.{Entry}
use Rattle.record_text.specs.Grammar.{Content}
use Rattle.record_text.specs.Laws.{OneOpening}
use Rattle.record_text.specs.Opening.{Reads, Refuses, misfits, limits, short, Opened}
use Rattle.record_text.specs.Pass.{read}
use Rattle.record_text.specs.Reading.{Outcome, accepted, misfit, limit, Misfit, Unclosed, Limit}
use Rattle.record_text.proofs.Only.{only, items_are}
use Rattle.record_text.proofs.Unique.{same_entries}

-- the answer that an outcome of the reading comes to, where the list has m entries
abbrev answered : ℕ → Outcome → Result ℕ Refusal
answered m (accepted n) = cond (leb n m) (Ok n) (Err refusal.Short)
answered m (misfit p) = Err (refusal.Misfit p)
answered m (limit p) = Err (refusal.Limit p)

-- what a refusal says, by its number
module _ (t : List ℕ) (m : ℕ) where
  abbrev Says : ℕ → List ℕ → Type 0
  Says n ps =
      ((p : ℕ) × (n ≡ 3) × (ps ≡ p ∷ []) × (Misfit t p ⊎ Unclosed t p))
      ⊎ (((p : ℕ) × (n ≡ 4) × (ps ≡ p ∷ []) × Limit t p)
      ⊎ ((es : List Entry) × (n ≡ 6) × Reads t es × (m < length es)))

  says : {n : ℕ} {ps : List ℕ} → Refuses t m n ps → Says n ps
  says (misfits p h) = inl (p, refl, refl, h)
  says (limits p h) = inr (inl (p, refl, refl, h))
  says (short es r h) = inr (inr (es, refl, r, h))

is_misfit : (e : Refusal) (p : ℕ) → number e ≡ 3 → places e ≡ p ∷ [] → e ≡ refusal.Misfit p
is_misfit (refusal.Misfit q) p n e = let z : q ≡ p = cc in ap refusal.Misfit z
is_misfit (refusal.Limit q) p n e = absurd (omega arith)
is_misfit refusal.Block p n e = absurd (omega arith)
is_misfit refusal.Short p n e = absurd (omega arith)
is_misfit refusal.List p n e = absurd (omega arith)
is_misfit refusal.Input p n e = absurd (omega arith)

is_limit : (e : Refusal) (p : ℕ) → number e ≡ 4 → places e ≡ p ∷ [] → e ≡ refusal.Limit p
is_limit (refusal.Misfit q) p n e = absurd (omega arith)
is_limit (refusal.Limit q) p n e = let z : q ≡ p = cc in ap refusal.Limit z
is_limit refusal.Block p n e = absurd (omega arith)
is_limit refusal.Short p n e = absurd (omega arith)
is_limit refusal.List p n e = absurd (omega arith)
is_limit refusal.Input p n e = absurd (omega arith)

is_short : (e : Refusal) → number e ≡ 6 → e ≡ refusal.Short
is_short (refusal.Misfit q) n = absurd (omega arith)
is_short (refusal.Limit q) n = absurd (omega arith)
is_short refusal.Block n = absurd (omega arith)
is_short refusal.Short n = refl
is_short refusal.List n = absurd (omega arith)
is_short refusal.Input n = absurd (omega arith)

module _ (t : List ℕ) (l : List Entry) where
  refusal_settled : (e : Refusal) → Refuses t (length l) (number e) (places e) → ◌≡◌ {A = Result ℕ Refusal} (Err e) (answered (length l) (read t))
  refusal_settled e h =
      elim (says t (length l) h) [
        | inl x ↦ (ap {B = Result ℕ Refusal} Err (is_misfit e x.0 x.1 x.2) ∙ ap (answered (length l)) (sym (only t (misfit x.0) x.3)))
        | inr y ↦ elim y [
          | inl x ↦ (ap {B = Result ℕ Refusal} Err (is_limit e x.0 x.1 x.2) ∙ ap (answered (length l)) (sym (only t (limit x.0) x.3)))
          | inr x ↦
              (let r = x.2 in
              ap {B = Result ℕ Refusal} Err (is_short e x.1)
              ∙ (sym (ap (λ b. cond b (Ok (length x.0)) (Err refusal.Short)) (lt-leb (length x.0) (length l) x.3))
              ∙ ap (answered (length l)) (sym (only t (accepted (length x.0)) (r.0, x.0, r.1, r.2, r.3, refl)))))
        ]
      ]

  settled : (r : Result ℕ Refusal) (l' : List Entry) → Opened t l r l' → r ≡ answered (length l) (read t)
  settled (Ok n) l' (es, r, len, fits, e) =
      sym (ap (λ b. cond b (Ok n) (Err refusal.Short)) (le-leb n (length l) fits))
      ∙ ap (answered (length l)) (sym (only t (accepted n) (r.0, es, r.1, r.2, r.3, len)))
  settled (Err e) l' h = refusal_settled e h.0

  same_read : (es fs : List Entry) → Reads t es → Reads t fs → es ≡ fs
  same_read es fs (is, io, c, w) (js, jo, d, v) =
      same_entries is es fs c (subst (λ k. Content 0 0 k fs) (sym (items_are t js jo) ∙ items_are t is io) d)

  same_list : (r r' : Result ℕ Refusal) (l' l'' : List Entry) → r ≡ r' → Opened t l r l' → Opened t l r' l'' → l' ≡ l''
  same_list (Ok n) (Ok n') l' l'' q (es, r, len, fits, e) (fs, r', len', fits', e') =
      let z : n ≡ n' = cc in
      e ∙ (ap (λ xs. xs ++ drop n l) (same_read es fs r r') ∙ (ap (λ k. fs ++ drop k l) z ∙ sym e'))
  same_list (Ok n) (Err f) l' l'' q h k = let z : ◌≡◌ {A = ℕ} 0 1 = cc in absurd (omega arith)
  same_list (Err f) (Ok n) l' l'' q h k = let z : ◌≡◌ {A = ℕ} 0 1 = cc in absurd (omega arith)
  same_list (Err e) (Err f) l' l'' q h k = h.1 ∙ sym k.1

pub one_opening : OneOpening
one_opening t l r r' l' l'' h k =
    let q : r ≡ r' = settled t l r l' h ∙ sym (settled t l r' l'' k) in
    (q, same_list t l r r' l' l'' q h k)
