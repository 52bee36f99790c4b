-- The open tags, last in, first out, and the moves of the reader of items.
use Rattle.std.specs.Prelude.{Ok}
use Rattle.record_text.specs.Turns.{ruling, Admitted}
use Rattle.std.proofs.Common.{◌≡◌, ℕ, ◌<◌, Bool, true, false, cond, ltb, leb, List, [], ◌∷◌, ◌++◌, length, ℤ, sym, refl, ap, ◌∙◌, arith, length-append}
use mathlib.Core.Option.{Option, some, none}
use Rattle.std.proofs.lemmas.Bool.{leb-false, lt-ltb}
use Rattle.record_text.specs.declared.entry.Entry.{Entry}
use Rattle.record_text.specs.declared.nest.OpenTag.{OpenTag}
use Rattle.record_text.specs.declared.nest.Held.TheVariants as code
use Rattle.records.specs.Limits.{most_nodes, most_levels}
use Rattle.record_text.specs.Machine.{Shape, shape, elements, Held, same, close, free}
use Rattle.record_text.specs.Nest.{open_of, ups, held_of}
use Rattle.record_text.specs.Pass.{full, Done, entry_of, closed}
use Rattle.record_text.proofs.Shapes.{none_over}

pub ups_push : (os : List OpenTag) (o : OpenTag) → ups (os ++ o ∷ []) ≡ open_of o ∷ ups os
ups_push [] o = refl
ups_push (x ∷ os) o = ap (λ l. l ++ open_of x ∷ []) (ups_push os o)

pub ups_length : (os : List OpenTag) → length (ups os) ≡ length os
ups_length [] = refl
ups_length (o ∷ os) = length-append (ups os) (open_of o ∷ []) ∙ (let h = ups_length os in omega arith)

-- the limits, by the open tags
pub full_ups : (n : ℕ) (os : List OpenTag) (b : Bool) → b ≡ full n (length os) → full n (length (ups os)) ≡ b
full_ups n os b e = ap (full n) (ups_length os) ∙ sym e

pub below_most : (n k : ℕ) → full n k ≡ false → (n < most_nodes) × (k < most_levels)
below_most n k e =
    let b = none_over (leb most_nodes n) (leb most_levels k) e in
    (leb-false most_nodes n b.0, leb-false most_levels k b.1)

-- an element that is admitted: there is room for one tag more, and the reader goes on
module _ (p : ℕ) (n : ℕ) (os : List OpenTag) (h : code.the_data) (a : Admitted p (shape n (ups os) (held_of h)) (Ok tt)) where
  pub has_room : (r : ℕ) (b : Bool) → r ≡ most_levels → b ≡ ltb (length os) r → b ≡ true
  has_room r b f g = let l = (below_most n (length (ups os)) a.0).1 in let m = ups_length os in g ∙ lt-ltb (length os) r (omega arith)

  pub admitted : (s s' : Shape) → s ≡ s' → ruling p (full n (length (ups os))) (free (held_of h) (some s)) ≡ Ok s'
  admitted s s' e = ap (λ b. ruling p b (free (held_of h) (some s))) a.0 ∙ (ap (ruling p false) (a.1 (some s)) ∙ ap Ok e)

-- a closing tag, where an element is open
module _ (w : List ℕ) (n : ℕ) (os os' : List OpenTag) (o : OpenTag) (e : os ≡ os' ++ o ∷ []) where
  on_top : ups os ≡ open_of o ∷ ups os'
  on_top = ap ups e ∙ ups_push os' o

  pub close_tag : (b : Bool) → b ≡ same w (o.name.now) → close w n (ups os) ≡ cond b (some (shape n (ups os') elements)) none
  close_tag b f = ap (close w n) on_top ∙ ap (λ x. cond x (some (shape n (ups os') elements)) none) (sym f)

  pub close_done : (q : ℕ) (h : Held) (d : ℕ) (x : Entry) → d ≡ length os' → x ≡ entry_of o.place h q (length w) d → closed q w h (ups os) ≡ (o.node, x) ∷ []
  close_done q h d x f g =
      ap (closed q w h) on_top
      ∙ ap {B = List Done} (λ y. (o.node, y) ∷ []) (ap (entry_of o.place h q (length w)) (ups_length os' ∙ sym f) ∙ sym g)

-- no number stands before it
pub free_held : (h : code.the_data) (x : Option Shape) → ((v : ℤ) → h ≡ code.Value v → ⊥) → free (held_of h) x ≡ x
free_held code.Blanks x f = refl
free_held code.Elements x f = refl
free_held (code.Value v) x f = absurd (f v refl)

pub done_same : (n : ℕ) (x y : Entry) → x ≡ y → ◌≡◌ {A = List Done} ((n, x) ∷ []) ((n, y) ∷ [])
done_same n x y e = ap {B = List Done} (λ z. (n, z) ∷ []) e
