-- What the reader reads on after an item, or where it stops at it: the first of the items that are left, and the next of the cutter.
use Rattle.std.specs.Prelude.{Some, Ok, Err, Option as Maybe, Result}
use Rattle.std.specs.Option.{option_to_list}
use Rattle.std.proofs.Common.{◌≡◌, ℕ, ◌+◌, Bool, true, false, List, ◌∷◌, ◌++◌, length, ap, ◌∙◌, subst}
use mathlib.Core.Option.{Option, some, none}
use Rattle.refusals.specs.declared.Refusal.{Refusal}
use Rattle.record_text.specs.declared.items.Placed.{Placed}
use Rattle.record_text.specs.declared.items.Cutter.{Cutter}
use Rattle.record_text.specs.Cutting.{item_of}
use Rattle.record_text.specs.Cutter.{from, left, Cuts}
use Rattle.record_text.proofs.Firsts.{cut_left, cut_from}
use Rattle.record_text.specs.Grammar.{Item, bytes}
use Rattle.record_text.specs.Reading.{Outcome}
use Rattle.record_text.specs.Machine.{Shape, move}
use Rattle.record_text.specs.Pass.{Done, over, decide, check, done_by, done_after, done}
use Rattle.record_text.specs.Turns.{outcome, ruling, Went}

-- a ruling decides what is read
module _ (p : ℕ) (f : Shape → Outcome) where
  pub ruled_on : (b : Bool) (o : Option Shape) (s : Shape) → ruling p b o ≡ Ok s → (decide p b o f ≡ f s) × (o ≡ some s)
  ruled_on b none s h = let z : ⊥ = cc in absurd z
  ruled_on true (some x) s h = let z : ⊥ = cc in absurd z
  ruled_on false (some x) s h = let q : x ≡ s = cc in (ap f q, ap some q)

  pub ruled_off : (b : Bool) (o : Option Shape) (e : Refusal) → ruling p b o ≡ Err e → outcome (decide p b o f) ≡ Err e
  ruled_off b none e h = cc
  ruled_off true (some x) e h = cc
  ruled_off false (some x) e h = let z : ⊥ = cc in absurd z

-- the first of the items that are left
module _ (p : ℕ) (s : Shape) (i : Item) (is js : List Item) (e : js ≡ i ∷ is) (p' : ℕ) (q : p + length (bytes i) ≡ p') (s' : Shape) where
  abbrev after_it : Shape → Outcome
  after_it x = check (p + length (bytes i)) x is

  done_on : move p s i ≡ some s' → done p s (i ∷ is) ≡ done_by p s i ++ done p' s' is
  done_on m = ap (λ o. done_after o (λ x. done_by p s i ++ done (p + length (bytes i)) x is)) m ∙ ap (λ n. done_by p s i ++ done n s' is) q

  pub goes_on : (d : Maybe Done) → Went p s i s' (Ok d) → (check p s js ≡ check p' s' is) × (done p s js ≡ option_to_list d ++ done p' s' is)
  goes_on d w =
      let k = ruled_on p after_it (over s i) (move p s i) s' w.0 in (
        ap (check p s) e ∙ (k.0 ∙ ap (λ n. check n s' is) q),
        ap (done p s) e ∙ (done_on k.1 ∙ ap (λ x. x ++ done p' s' is) w.1),
      )

  pub stops : (f : Refusal) → Went p s i s' (Err f) → outcome (check p s js) ≡ Err f
  stops f w = ap (λ l. outcome (check p s l)) e ∙ ruled_off p after_it (over s i) (move p s i) f w

-- the next item of the cutter
module _ (c c' : Cutter) (x : Placed) (h : Cuts c (Some x) c') (s s' : Shape) where
  at_from : (r : Result (Maybe Done) Refusal) → Went x.start s (item_of c.rest.now x.item) s' r → Went (from c) s (item_of c.rest.now x.item) s' r
  at_from r w = subst (λ n. Went n s (item_of c.rest.now x.item) s' r) h.2 w

  pub taken_on : (d : Maybe Done) → Went x.start s (item_of c.rest.now x.item) s' (Ok d) →
      (check (from c) s (left c) ≡ check (from c') s' (left c')) × (done (from c) s (left c) ≡ option_to_list d ++ done (from c') s' (left c'))
  taken_on d w = goes_on (from c) s (item_of c.rest.now x.item) (left c') (left c) (cut_left c c' x h) (from c') (cut_from c c' x h) s' d (at_from (Ok d) w)

  pub taken_off : (f : Refusal) → Went x.start s (item_of c.rest.now x.item) s' (Err f) → outcome (check (from c) s (left c)) ≡ Err f
  taken_off f w = stops (from c) s (item_of c.rest.now x.item) (left c') (left c) (cut_left c c' x h) (from c') (cut_from c c' x h) s' f (at_from (Err f) w)
