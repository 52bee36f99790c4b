-- Every input has one report, since every text has one answer and a record one list of entries.
use Rattle.std.proofs.Common.{◌≡◌, ℕ, List, [], length, sym, refl, ap, ◌∙◌, arith}
use native.Mathlib.Decide.{dec_lt}
use Rattle.record_text.specs.declared.entry.Entry.{Entry}
use Rattle.record_text.specs.Grammar.{WellFormed}
use Rattle.record_text.specs.Reading.{Outcome, accepted, misfit, limit, Answer, Accepted}
use Rattle.record_text.specs.Opening.{Reads}
use Rattle.record_text.proofs.Unique.{one_answer, one_list}
use Rattle.reports.specs.Laws.{OneReport}
use Rattle.reports.specs.Lines.{refused_line}
use Rattle.reports.specs.Outlines.{most_input, Reported, reads, misfits, limits, Outlined, too_long, short_enough}

same_answer : (t : List ℕ) (a b : Outcome) → Answer t a → Answer t b → a ≡ b
same_answer t a b x y = let u = one_answer t in sym (u.2 a x) ∙ u.2 b y

accepts : (t : List ℕ) (es : List Entry) → Reads t es → Accepted t (length es)
accepts t es h = (h.0, es, h.1, h.2, h.3, refl)

well_formed : (t : List ℕ) (es : List Entry) → Reads t es → WellFormed t es
well_formed t es h = (h.0, h.1.0, h.2)

clash : {P : Type 0} → ◌≡◌ {A = ℕ} 0 1 → P
clash z = absurd (omega arith)

one_of_text : (s : List Entry → List ℕ) (t o o' : List ℕ) → Reported s t o → Reported s t o' → o ≡ o'
one_of_text s t _ _ (reads es h) (reads fs g) = ap s (one_list t es fs (well_formed t es h) (well_formed t fs g))
one_of_text s t _ _ (reads es h) (misfits q g) = let e = same_answer t (accepted (length es)) (misfit q) (accepts t es h) g in clash (cc)
one_of_text s t _ _ (reads es h) (limits q g) = let e = same_answer t (accepted (length es)) (limit q) (accepts t es h) g in clash (cc)
one_of_text s t _ _ (misfits p h) (reads fs g) = let e = same_answer t (misfit p) (accepted (length fs)) h (accepts t fs g) in clash (cc)
one_of_text s t _ _ (misfits p h) (misfits q g) = let e = same_answer t (misfit p) (misfit q) h g in cc
one_of_text s t _ _ (misfits p h) (limits q g) = let e = same_answer t (misfit p) (limit q) h g in clash (cc)
one_of_text s t _ _ (limits p h) (reads fs g) = let e = same_answer t (limit p) (accepted (length fs)) h (accepts t fs g) in clash (cc)
one_of_text s t _ _ (limits p h) (misfits q g) = let e = same_answer t (limit p) (misfit q) h g in clash (cc)
one_of_text s t _ _ (limits p h) (limits q g) = let e = same_answer t (limit p) (limit q) h g in cc

only : (s : List Entry → List ℕ) (t o o' : List ℕ) → Outlined s t o → Outlined s t o' → o ≡ o'
only s t o o' (too_long l e) (too_long k f) = e ∙ sym f
only s t o o' (too_long l e) (short_enough k g) = absurd (omega arith)
only s t o o' (short_enough l h) (too_long k f) = absurd (omega arith)
only s t o o' (short_enough l h) (short_enough k g) = one_of_text s t o o' h g

of_answer : (s : List Entry → List ℕ) (t : List ℕ) (a : Outcome) → Answer t a → (o : List ℕ) × Reported s t o
of_answer s t (accepted n) x = (_, reads x.1 (x.0, x.2, x.3, x.4))
of_answer s t (misfit p) x = (_, misfits p x)
of_answer s t (limit p) x = (_, limits p x)

some_report : (s : List Entry → List ℕ) (t : List ℕ) → (o : List ℕ) × Outlined s t o
some_report s t =
    elim (dec_lt most_input (length t)) [
      | yes h ↦ (refused_line 8 [], too_long h refl)
      | no h ↦ (let u = one_answer t in let r = of_answer s t u.0 u.1 in (r.0, short_enough (omega arith) r.1))
    ]

pub one_report : OneReport
one_report s t = let r = some_report s t in (r.0, r.1, λ o' x. only s t r.0 o' r.1 x)
