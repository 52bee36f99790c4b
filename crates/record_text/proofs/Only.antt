-- The reading gives the one answer that there is.
use Rattle.std.proofs.Common.{◌≡◌, ℕ, ◌+◌, Bool, true, false, List, [], ◌∷◌, ◌++◌, length, sym, refl, ap, ◌∙◌, subst, inl, inr, append_assoc, append-nil, arith}
use mathlib.Core.Option.{Option, some, none}
use Rattle.record_text.specs.declared.entry.Entry.{Entry}
use Rattle.record_text.specs.Grammar.{Item, bytes, size, Content, Fits}
use Rattle.record_text.specs.Items.{ItemsOf}
use Rattle.record_text.specs.Reading.{Within, nothing, one_more, Outcome, accepted, misfit, limit, Accepted, Misfit, Unclosed, Limit, Answer}
use Rattle.record_text.specs.Machine.{Open, Held, elements, Shape, shape, move, runs}
use Rattle.record_text.proofs.Complete.{content_run}
use Rattle.record_text.proofs.Sound.{Spine, top, Proper, finished, move_sound}
use Rattle.record_text.proofs.Lex.{items, cut_lex}
use Rattle.record_text.proofs.Read.{over, decide, at_end, check, start, read, fits_run, pop_run, stands, not_over, is_over, all_proper, front_proper, back_proper, some_same, size_push}

-- the reader passes what is within the limits
through : {is : List Item} → Within is → (s : Shape) → runs 0 start is ≡ some s → (rest : List Item) → check 0 start (is ++ rest) ≡ check (size is) s rest
through nothing s r rest = ap (λ x. check 0 x rest) (some_same start s r)
through (one_more {is} w i no_over) s' r rest =
    let h = pop_run is i s' r in
    let m = h.2 in
    ap (check 0 start) (append_assoc is (i ∷ []) rest)
    ∙ (through w h.0 h.1 (i ∷ rest)
    ∙ (ap (λ o. decide (size is) (over h.0 i) o (λ x. check (size is + length (bytes i)) x rest)) m
    ∙ (go (over h.0 i) refl
    ∙ ap (λ n. check n s' rest) (size_push is i))))
  where
    go : (b : Bool) → over (pop_run is i s' r).0 i ≡ b → decide (size is) b (some s') (λ x. check (size is + length (bytes i)) x rest) ≡ check (size is + length (bytes i)) s' rest
    go true e = let h = pop_run is i s' r in absurd (no_over (is_over is i h.0 s' h.1 h.2 e))
    go false e = refl

pub items_are : (t : List ℕ) (is : List Item) → ItemsOf t is → items t ≡ is
items_are t is io = subst (λ x. items x ≡ is) io.0 (cut_lex is io.1)

read_items : (t : List ℕ) (is : List Item) → ItemsOf t is → read t ≡ check 0 start is
read_items t is io = ap (check 0 start) (items_are t is io)

fit_pushed : (is : List Item) (i : Item) → Fits (is ++ i ∷ []) → (s : Shape) × (s' : Shape) × (runs 0 start is ≡ some s) × (move (size is) s i ≡ some s')
fit_pushed is i f =
    let h = fits_run (is ++ i ∷ []) f in
    let g = pop_run is i h.0 h.1 in
    (g.0, h.0, g.1, g.2)

only_misfit : (is : List Item) (i : Item) (rest : List Item) (s : Shape) → Spine is s.nodes s.up s.held → Proper i → (Fits (is ++ i ∷ []) → ⊥) → check (size is) s (i ∷ rest) ≡ misfit (size is)
only_misfit is i rest s sp pr f = go (move (size is) s i) refl
  where
    go : (o : Option Shape) → move (size is) s i ≡ o → decide (size is) (over s i) o (λ x. check (size is + length (bytes i)) x rest) ≡ misfit (size is)
    go none m = refl
    go (some s') m = absurd (f (finished s'.up (move_sound i s s' pr sp m)))

only_unclosed : (is : List Item) (n : ℕ) (up : List Open) (h : Held) → Spine is n up h → ((es : List Entry) → Content 0 0 is es → ⊥) → at_end (size is) n up ≡ misfit (size is)
only_unclosed is n [] h (top {es = es} c) f = absurd (f es c)
only_unclosed is n (o ∷ up) h sp f = refl

at_nil : (is : List Item) → check 0 start is ≡ check 0 start (is ++ [])
at_nil is = ap (check 0 start) (sym (append-nil is))

only_accepted : (t : List ℕ) (n : ℕ) → Accepted t n → read t ≡ accepted n
only_accepted t n a =
    let is = a.0 in
    let r = content_run a.3 0 [] elements tt in
    let z : 0 + length a.1 ≡ n = omega (arith, a.5) in
    read_items t is a.2 ∙ (at_nil is ∙ (through a.4 (shape (0 + length a.1) [] r.0) r.2 [] ∙ ap accepted z))

only_misfits : (t : List ℕ) (p : ℕ) → Misfit t p → read t ≡ misfit p
only_misfits t p a =
    let is = a.0 in
    let i = a.1 in
    let f = fits_run is a.4 in
    let pr = all_proper (is ++ i ∷ a.2) a.3.1 in
    read_items t (is ++ i ∷ a.2) a.3
    ∙ (through a.5 f.0 f.1 (i ∷ a.2)
    ∙ (only_misfit is i a.2 f.0 (stands is f.0 (front_proper is (i ∷ a.2) pr) f.1) (back_proper is i a.2 pr) a.6
    ∙ ap misfit a.7))

only_open : (t : List ℕ) (p : ℕ) → Unclosed t p → read t ≡ misfit p
only_open t p a =
    let is = a.0 in
    let f = fits_run is a.2 in
    read_items t is a.1
    ∙ (at_nil is
    ∙ (through a.3 f.0 f.1 []
    ∙ (only_unclosed is f.0.nodes f.0.up f.0.held (stands is f.0 (all_proper is a.1.1) f.1) a.4
    ∙ ap misfit a.5)))

only_limit : (t : List ℕ) (p : ℕ) → Limit t p → read t ≡ limit p
only_limit t p a =
    let is = a.0 in
    let i = a.1 in
    let f = fit_pushed is i a.5 in
    read_items t (is ++ i ∷ a.2) a.3
    ∙ (through a.4 f.0 f.2 (i ∷ a.2)
    ∙ (ap (λ o. decide (size is) (over f.0 i) o (λ x. check (size is + length (bytes i)) x a.2)) f.3
    ∙ (is_limit (size is) f.1 (over f.0 i) (λ e. not_over is i f.0 f.1 f.2 f.3 e a.6) _
    ∙ ap limit a.7)))
  where
    is_limit : (p : ℕ) (s : Shape) (b : Bool) → (b ≡ false → ⊥) → (g : Shape → Outcome) → decide p b (some s) g ≡ limit p
    is_limit p s true h g = refl
    is_limit p s false h g = absurd (h refl)

pub only : (t : List ℕ) (o : Outcome) → Answer t o → read t ≡ o
only t (accepted n) a = only_accepted t n a
only t (misfit p) a = elim a [ inl x ↦ only_misfits t p x | inr y ↦ only_open t p y ]
only t (limit p) a = only_limit t p a
