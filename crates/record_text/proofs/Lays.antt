-- From a pass that compares to the answer of `lay`.
use Rattle.std.proofs.Common.{◌≡◌, ◌≤◌, ℕ, true, ◌⊎◌, inl, inr, List, length, take, Some, None, Ok, Err, Option, Result, sym, refl, ap, ◌∙◌, subst, arith, length-take}
use mathlib.Core.Bool.{false≢true}
use lib.ListN.{length-map}
use Rattle.std.proofs.lemmas.List.{take_at, take_all}
use Rattle.std.proofs.lemmas.Bool.{eq-eqb, eqb-true}
use Rattle.refusals.specs.declared.Refusal.{Refusal}
use Rattle.refusals.specs.declared.Refusal.TheVariants as refusal
use Rattle.refusals.specs.Refusals.{number, places}
use Rattle.record_text.specs.declared.entry.Entry.{Entry}
use Rattle.record_text.specs.declared.text.TextRecord.{TextRecord}
use Rattle.record_text.specs.Reading.{Outcome, accepted, misfit, limit, Answer, Accepted, Misfit, Unclosed, Limit}
use Rattle.record_text.specs.Opening.{Reads}
use Rattle.record_text.specs.Pass.{accepts, completed, read}
use Rattle.record_text.specs.Agree.{Agrees}
use Rattle.record_text.specs.Passing.{Compared, Tied}
use Rattle.record_text.specs.Turns.{outcome}
use Rattle.record_text.specs.Texts.{text_node}
use Rattle.record_text.specs.Laying.{text_of, entries_of, RecordsRead, Differs, Unlaid, misfits, limits, differs, Laid, refusal_of, Settled}
use Rattle.record_text.proofs.Read.{read_answers}
use Rattle.record_text.proofs.Only.{only}
use Rattle.record_text.proofs.Unique.{one_list}
use Rattle.record_text.proofs.Opens.{unlike, err_same, counted}
use Rattle.record_text.proofs.Tells.{keeps_shape}
use Rattle.record_text.proofs.Agreeing.{entries_are, begins_same, agrees_begins, begins_agrees}

abbrev Refused : List ℕ → List Entry → Refusal → Type 0
Refused t l e = Unlaid t l (number e) (places e)

accepts_yes : (o : Outcome) (n : ℕ) → o ≡ accepted n → accepts o n ≡ true
accepts_yes o n e = ap (λ x. accepts x n) e ∙ eq-eqb n n refl

accepts_is : (o : Outcome) (n : ℕ) → accepts o n ≡ true → o ≡ accepted n
accepts_is (accepted m) n e = ap accepted (eqb-true m n e)
accepts_is (misfit p) n e = absurd (false≢true e)
accepts_is (limit p) n e = absurd (false≢true e)

-- what the fields of a record say, by the grammar
pub records_read : RecordsRead
records_read x =
    let t = x.text.now in
    let l = x.nodes.now in
    let n : ℕ = length l in
    let a : Accepted t n = subst (Answer t) (accepts_is (read t) n x.fine) (read_answers t) in
    let r : Reads t a.1 = (a.0, a.2, a.3, a.4) in
    let e : l ≡ a.1 = sym (take_all n l (omega arith)) ∙ (ap (take n) (sym x.same ∙ entries_are t a.1 l r (omega (arith, a.5))) ∙ take_at a.1 _ n a.5) in
    subst (Reads t) (sym e) r

refused_by : (t : List ℕ) (l : List Entry) (o : Outcome) (e : Refusal) → Answer t o → ◌≡◌ {A = Result ℕ Refusal} (Err e) (outcome o) → Refused t l e
refused_by t l (accepted m) e a h = unlike cc
refused_by t l (misfit p) e a h = subst (Refused t l) (sym (err_same e (refusal.Misfit p) h)) (misfits p a)
refused_by t l (limit p) e a h = subst (Refused t l) (sym (err_same e (refusal.Limit p) h)) (limits p a)

module _ (t : List ℕ) (l : List Entry) where
  reads_accepted : (es : List Entry) → Reads t es → read t ≡ accepted (length es)
  reads_accepted es r = only t (accepted (length es)) (r.0, es, r.1, r.2, r.3, refl)

  module _ (e : Refusal) (h : ◌≡◌ {A = Result ℕ Refusal} (Err e) (outcome (read t))) where
    unlaid : Refused t l e
    unlaid = refused_by t l (read t) e (read_answers t) h

    no_reading : {X : Type 0} (es : List Entry) → Reads t es → X
    no_reading es r = let q : ◌≡◌ {A = Result ℕ Refusal} (Err e) (Ok (length es)) = h ∙ ap outcome (reads_accepted es r) in unlike cc

    told : (o : Outcome) (f : Refusal) → Answer t o → ◌≡◌ {A = Result ℕ Refusal} (outcome o) (Err f) → ◌≡◌ {A = Option Refusal} (Some e) (Some f)
    told o f a g = ap Some (err_same e f (h ∙ (ap outcome (only t o a) ∙ g)))

    settled_unlaid : Settled t l (Some e)
    settled_unlaid = (
      λ b. no_reading b.0 b.1,
      λ p a. told (misfit p) (refusal.Misfit p) a refl,
      λ p a. told (limit p) (refusal.Limit p) a refl,
      λ d. no_reading d.0 d.1,
    )

  module _ (n : ℕ) (h : ◌≡◌ {A = Result ℕ Refusal} (Ok n) (outcome (read t))) where
    taken : Accepted t n
    taken = subst (Answer t) (counted (read t) n h) (read_answers t)

    -- the text is accepted, with some entries
    reading : (es : List Entry) × Reads t es × (length es ≡ n)
    reading = let a = taken in (a.1, (a.0, a.2, a.3, a.4), a.5)

    none_at_fault : {X : Type 0} (o : Outcome) → Answer t o → (accepted n ≡ o → ◌≡◌ {A = ℕ} 0 1) → X
    none_at_fault o a f = unlike (f (sym (counted (read t) n h) ∙ only t o a))

    no_misfit : {X : Type 0} (p : ℕ) → Misfit t p ⊎ Unclosed t p → X
    no_misfit p a = none_at_fault (misfit p) a (λ q. cc)

    no_limit : {X : Type 0} (p : ℕ) → Limit t p → X
    no_limit p a = none_at_fault (limit p) a (λ q. cc)

    whole : n ≤ length l → Agrees (completed t) l → (es : List Entry) → Reads t es → length es ≡ n → take (length es) l ≡ es
    whole m a es r k = agrees_begins t es l r (omega arith) a

    part : (es : List Entry) → Reads t es → take (length es) l ≡ es → (n ≤ length l) × Agrees (completed t) l
    part es r e =
        let k : length es ≡ n = let q : accepted n ≡ accepted (length es) = sym (counted (read t) n h) ∙ reads_accepted es r in cc in
        let m = ap length (sym e) ∙ length-take (length es) l in
        (omega arith, begins_agrees t es l r e)

    -- the list differs from the entries
    module _ (f : n ≤ length l → Agrees (completed t) l → ⊥) where
      differing : Differs t l
      differing = let r = reading in (r.0, r.1, λ e. let p = part r.0 r.1 e in f p.0 p.1)

      settled_differing : Settled t l (Some refusal.List)
      settled_differing = (λ x. let p = part x.0 x.1 x.2 in absurd (f p.0 p.1), λ p a. no_misfit p a, λ p a. no_limit p a, λ x. refl)

    -- or begins with them
    module _ (m : n ≤ length l) (a : Agrees (completed t) l) where
      pub agreeing : Tied t (take n l) × Reads t (take n l) × (take (length (take n l)) l ≡ take n l)
      agreeing =
          let r = reading in
          let e = whole m a r.0 r.1 r.2 in
          let y : take n l ≡ r.0 = ap (λ k. take k l) (sym r.2) ∙ e in
          let k = keeps_shape t r.0 r.1 in
          let w = length-map r.0 (text_node t) in
          let z : take (length r.0) r.0 ≡ r.0 = take_all (length r.0) r.0 (omega arith) in
          let tied : Tied t r.0 = record {
            fine = accepts_yes (read t) (length r.0) (counted (read t) n h ∙ ap accepted (sym r.2));
            same = begins_same t r.0 r.0 r.1 (omega arith) z;
            few = omega (arith, k.0);
            shape = k.1;
          } in
          subst (λ x. Tied t x × Reads t x × (take (length x) l ≡ x)) (sym y) (tied, r.1, e)

      pub settled_agreeing : Settled t l None
      settled_agreeing = (
        λ x. refl,
        λ p b. no_misfit p b,
        λ p b. no_limit p b,
        λ x.
            let k : length x.0 ≡ n = let o : accepted n ≡ accepted (length x.0) = sym (counted (read t) n h) ∙ reads_accepted x.0 x.1 in cc in
            absurd (x.2 (whole m a x.0 x.1 k)),
      )

-- either way, the list is refused
pub unlaid_by : (t : List ℕ) (l : List Entry) (e : Refusal) → Compared t l (Err e) → Refused t l e × Settled t l (Some e)
unlaid_by t l e (inl h) = (unlaid t l e (sym h), settled_unlaid t l e (sym h))
unlaid_by t l e (inr (f, (n, h, d))) =
    subst (λ x. Refused t l x × Settled t l (Some x)) (sym f) (differs (differing t l n (sym h) d), settled_differing t l n (sym h) d)

-- where the list begins with the entries, the record holds them afterwards
pub laid_entries : (t : List ℕ) (l : List Entry) (r : Result (Unit {0}) Refusal) (x y : TextRecord) → Laid t l r x y → Settled t l (refusal_of r) → (es : List Entry) → Reads t es →
    take (length es) l ≡ es → (text_of y ≡ t) × (entries_of y ≡ es)
laid_entries t l (Ok u) x y (fs, q, k, a, b) s es r e = (a, b ∙ one_list t fs es (q.0, q.1.0, q.2) (r.0, r.1.0, r.2))
laid_entries t l (Err f) x y h s es r e = let q : ◌≡◌ {A = Option Refusal} (Some f) None = s.0 (es, r, e) in unlike cc
