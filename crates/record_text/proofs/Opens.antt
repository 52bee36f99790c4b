-- From the two passes to the answer of `open`.
use Rattle.std.proofs.Common.{◌≡◌, ℕ, ◌<◌, ◌≤◌, List, ◌++◌, length, drop, IsErrAnd, Ok, Err, Result, sym, ap, ◌∙◌, subst, arith}
use Rattle.refusals.specs.declared.Refusal.{Refusal}
use Rattle.refusals.specs.declared.Refusal.TheVariants as refusal
use Rattle.refusals.specs.Refusals.{number, places}
use Rattle.record_text.specs.declared.entry.Entry.{Entry}
use Rattle.record_text.specs.Reading.{Outcome, accepted, misfit, limit, Answer, Accepted}
use Rattle.record_text.specs.Pass.{start, read, done, written, entries}
use Rattle.record_text.specs.Opening.{Refuses, misfits, limits, short, Opened}
use Rattle.record_text.specs.Turns.{outcome}
use Rattle.record_text.proofs.Read.{read_answers}
use Rattle.record_text.proofs.Only.{items_are}
use Rattle.record_text.proofs.Fill.{content_fill}

pub unlike : {X : Type 0} → ◌≡◌ {A = ℕ} 0 1 → X
unlike e = absurd (omega arith)

pub err_same : (e f : Refusal) → ◌≡◌ {A = Result ℕ Refusal} (Err e) (Err f) → e ≡ f
err_same e f h = cc

-- `?` hands the refusal on as it is
pub error_from : {A : Type 0} (r : Result A Refusal) (e : Refusal) → IsErrAnd r (λ f. f ≡ e) → r ≡ Err e
error_from (Ok n) e h = absurd h
error_from (Err f) e h = ap Err h

abbrev Refused : List ℕ → ℕ → Refusal → Type 0
Refused t m e = Refuses t m (number e) (places e)

-- the first pass
pub counted : (o : Outcome) (n : ℕ) → ◌≡◌ {A = Result ℕ Refusal} (Ok n) (outcome o) → o ≡ accepted n
counted (accepted m) n h = let q : n ≡ m = cc in ap accepted (sym q)
counted (misfit p) n h = unlike cc
counted (limit p) n h = unlike cc

refused_by : (t : List ℕ) (n : ℕ) (o : Outcome) (e : Refusal) → Answer t o → ◌≡◌ {A = Result ℕ Refusal} (Err e) (outcome o) → Refused t n e
refused_by t n (accepted m) e a h = unlike cc
refused_by t n (misfit p) e a h = subst (Refused t n) (sym (err_same e (refusal.Misfit p) h)) (misfits p a)
refused_by t n (limit p) e a h = subst (Refused t n) (sym (err_same e (refusal.Limit p) h)) (limits p a)

module _ (t : List ℕ) (l : List Entry) where
  pub refused : (e : Refusal) → ◌≡◌ {A = Result ℕ Refusal} (Err e) (outcome (read t)) → Refused t (length l) e
  refused e h = refused_by t (length l) (read t) e (read_answers t) h

  module _ (n : ℕ) (h : ◌≡◌ {A = Result ℕ Refusal} (Ok n) (outcome (read t))) where
    accepts : Accepted t n
    accepts = subst (Answer t) (counted (read t) n h) (read_answers t)

    pub too_short : length l < n → Refused t (length l) refusal.Short
    too_short k = let a = accepts in short a.1 (a.0, a.2, a.3, a.4) (omega (arith, a.5))

    pub filled : n ≤ length l → (l' : List Entry) → l' ≡ entries t l → Opened t l (Ok n) l'
    filled k l' e =
        let a = accepts in
        let c = a.3 in
        let b : length a.1 ≤ length l = omega (arith, a.5) in
        let q : entries t l ≡ a.1 ++ drop (length a.1) l = ap (λ is. written (done 0 start is) l) (items_are t a.0 a.2) ∙ content_fill c l b in
        (a.1, (a.0, a.2, c, a.4), a.5, k, e ∙ (q ∙ ap (λ m. a.1 ++ drop m l) a.5))
