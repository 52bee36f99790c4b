-- From what `open` answers to the report.
use Rattle.std.proofs.Common.{◌≡◌, ℕ, List, length, take, drop, IfOk, Ok, Err, Result, sym, ap, ◌∙◌, subst, arith}
use lib.ListN.{length-map}
use Rattle.std.proofs.lemmas.List.{take_at}
use Rattle.std.proofs.lemmas.Result.{IfOk-weaker}
use Rattle.refusals.specs.declared.Refusal.{Refusal}
use Rattle.refusals.specs.Refusals.{number, places}
use Rattle.record_text.specs.declared.entry.Entry.{Entry}
use Rattle.records.specs.Limits.{most_nodes}
use Rattle.record_text.specs.Opening.{Opened, Reads, Refuses, misfits, limits, short}
use Rattle.record_text.specs.Texts.{text_node}
use Rattle.record_text.proofs.Tells.{keeps_shape}
use Rattle.reports.specs.Lines.{refused_line}
use Rattle.reports.specs.Outlines.{Reported}
use Rattle.reports.specs.Outlines as outlines

-- a list of as many entries as a record may have is never too short
pub refusal_reported : (s : List Entry → List ℕ) (t : List ℕ) (m n : ℕ) (ps : List ℕ) → m ≡ most_nodes → Refuses t m n ps → Reported s t (refused_line n ps)
refusal_reported s t m _ _ e (misfits p h) = outlines.misfits p h
refusal_reported s t m _ _ e (limits p h) = outlines.limits p h
refusal_reported s t m _ _ e (short es h l) = let k = (keeps_shape t es h).0 in let n = length-map es (text_node t) in absurd (omega arith)

pub nodes_reported : {V E : Type 0} (bytes : V → List ℕ) (s : List Entry → List ℕ) (t : List ℕ) (l l' part : List Entry) (n : ℕ) (r : Result V E) →
    Opened t l (Ok n) l' → part ≡ take n l' → (Reads t part → IfOk r (λ v. bytes v ≡ s part)) → IfOk r (λ v. Reported s t (bytes v))
nodes_reported bytes s t l l' part n r h p m =
    let es = h.0 in
    let whole : part ≡ es = p ∙ ap (take n) h.4 ∙ take_at es (drop n l) n h.2 in
    IfOk-weaker r _ _ (λ v e. subst (λ o. Reported s t o) (sym (e ∙ ap s whole)) (outlines.reads es h.1)) (m (subst (λ l. Reads t l) (sym whole) h.1))

pub refused_reported : {V E : Type 0} (bytes : V → List ℕ) (s : List Entry → List ℕ) (t : List ℕ) (l l' : List Entry) (x : Refusal) (r : Result V E) →
    Opened t l (Err x) l' → length l ≡ most_nodes → IfOk r (λ v. bytes v ≡ refused_line (number x) (places x)) → IfOk r (λ v. Reported s t (bytes v))
refused_reported bytes s t l l' x r h f m =
    IfOk-weaker r _ _ (λ v e. subst (λ o. Reported s t o) (sym e) (refusal_reported s t (length l) (number x) (places x) f h.0)) m
