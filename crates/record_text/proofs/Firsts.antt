-- The first item of a text, as the cutter gives it.
use Rattle.std.proofs.Common.{◌≡◌, ℕ, ◌+◌, ◌-◌, ◌<◌, ◌≤◌, List, [], ◌∷◌, ◌++◌, length, sym, refl, ap, ◌∙◌, subst, arith, length-append, length-take-le, take-append-drop}
use mathlib.Core.Bool.{false≢true}
use Rattle.std.specs.Prelude.{◌≢◌, Bool, true, false, cond, not, take, drop, Some, None, ◌==◌, nat_lt, slice_index}
use Rattle.std.specs.List.{position, position_or_len}
use Rattle.std.specs.Option.{unwrap_or}
use Rattle.std.proofs.lemmas.List.{take_all}
use Rattle.std.proofs.lemmas.List.Sums.{prefix_len-le-length}
use Rattle.std.proofs.Math.Numerals.{one-add, add-one}
use Rattle.std.proofs.lemmas.Bool.{eq-eqb, eqb-true, ltb-true, ltb-false}
use Rattle.lexical.specs.declared.kinds.Kind.{Kind}
use Rattle.lexical.specs.declared.kinds.Kind.TheVariants.{Letter, Digit, Hyphen, Point, Less, Greater, Slash, Blank, Other}
use Rattle.lexical.specs.Kinds.{kind}
use Rattle.lexical.specs.Numbers.{figure_kind}
use Rattle.record_text.specs.declared.items.Placed.{Placed}
use Rattle.record_text.specs.declared.items.Cutter.{Cutter}
use Rattle.record_text.specs.Grammar.{Item, gap, tag, num, stray, lone, bytes, text}
use Rattle.record_text.specs.Items.{greater, of_kind, Stray as StrayRole, role, Figures, NoGreater, NotEmpty, Quits, Ends}
use Rattle.record_text.specs.Machine.{items}
use Rattle.record_text.specs.Cutting.{item_of, no_figure}
use Rattle.record_text.specs.Cutter.{from, left, Cuts}
use Rattle.record_text.proofs.Lex.{greater_is, cut_lex, items_text, items_cut}
use Rattle.record_text.proofs.Cuts.{figure_role, role_figure}

some_bytes : (i : Item) (is : List Item) → Ends i is → 1 ≤ length (bytes i)
some_bytes (gap b) is e = omega arith
some_bytes (tag bs) is e = omega arith
some_bytes (num []) is e = absurd e.0
some_bytes (num (d ∷ ds)) is e = omega arith
some_bytes (stray b) is e = omega arith
some_bytes (lone bs) is e = omega arith

module _ (t r : List ℕ) (i : Item) (e : bytes i ++ r ≡ t) (k : Ends i (items r)) where
  first_items : items t ≡ i ∷ items r
  first_items = ap items (sym e ∙ ap (λ l. bytes i ++ l) (sym (items_text r))) ∙ cut_lex (i ∷ items r) (k, items_cut r)

  first_length : length t ≡ length (bytes i) + length r
  first_length = ap length (sym e) ∙ length-append (bytes i) r

-- up to the first `>`
abbrev is_greater : ℕ → Bool
is_greater b = b == 62

no_greater_before : (t : List ℕ) → NoGreater (take (position_or_len is_greater t) t)
no_greater_before [] = tt
no_greater_before (b ∷ t) = go (no_greater_before t) (b == 62) refl
  where
    go : NoGreater (take (position_or_len is_greater t) t) → (x : Bool) → (b == 62) ≡ x → NoGreater (take (cond (not x) (1 + position_or_len is_greater t) 0) (b ∷ t))
    go ih true e = tt
    go ih false e = let f : role b ≢ greater = λ g. false≢true (sym e ∙ eq-eqb b 62 (greater_is b g)) in rw one-add (f, ih)

greater_there : (t : List ℕ) → position_or_len is_greater t < length t →
    take (position_or_len is_greater t) t ++ 62 ∷ drop (position_or_len is_greater t + 1) t ≡ t
greater_there [] h = absurd (omega arith)
greater_there (b ∷ t) h = go (λ k. greater_there t k) (b == 62) refl h
  where
    go : (position_or_len is_greater t < length t → take (position_or_len is_greater t) t ++ 62 ∷ drop (position_or_len is_greater t + 1) t ≡ t) →
        (x : Bool) → (b == 62) ≡ x → cond (not x) (1 + position_or_len is_greater t) 0 < length (b ∷ t) →
        take (cond (not x) (1 + position_or_len is_greater t) 0) (b ∷ t) ++ 62 ∷ drop (cond (not x) (1 + position_or_len is_greater t) 0 + 1) (b ∷ t) ≡ b ∷ t
    go ih true e h = ap (λ c. c ∷ t) (sym (eqb-true b 62 e))
    go ih false e h = let k = ap (λ l. b ∷ l) (ih (omega arith)) in simp (one-add, add-one) (simp add-one at k)

-- where a test first passes
found_at : {X : Type 0} (p : X → Bool) (t : List X) (n : ℕ) → position p t ≡ Some n → (n ≡ position_or_len p t) × (position_or_len p t < length t)
found_at p t n h = go (nat_lt (position_or_len p t) (length t)) refl h
  where
    go : (x : Bool) → nat_lt (position_or_len p t) (length t) ≡ x → cond x (Some (position_or_len p t)) None ≡ Some n → (n ≡ position_or_len p t) × (position_or_len p t < length t)
    go true e h = (let q : n ≡ position_or_len p t = cc in q, ltb-true (position_or_len p t) (length t) e)
    go false e h = let z : ⊥ = cc in absurd z

found_none : {X : Type 0} (p : X → Bool) (t : List X) → position p t ≡ None → length t ≤ position_or_len p t
found_none p t h = go (nat_lt (position_or_len p t) (length t)) refl h
  where
    go : (x : Bool) → nat_lt (position_or_len p t) (length t) ≡ x → cond x (Some (position_or_len p t)) None ≡ None → length t ≤ position_or_len p t
    go true e h = let z : ⊥ = cc in absurd z
    go false e h = ltb-false (position_or_len p t) (length t) e

pub first_tag : (t : List ℕ) (n : ℕ) → position is_greater t ≡ Some n → (n < length t) × (take n t ++ 62 ∷ drop (n + 1) t ≡ t) × NoGreater (take n t)
first_tag t n h =
    let k = found_at is_greater t n h in
    (omega arith, subst (λ m. take m t ++ 62 ∷ drop (m + 1) t ≡ t) (sym k.0) (greater_there t k.1), subst (λ m. NoGreater (take m t)) (sym k.0) (no_greater_before t))

pub first_lone : (t : List ℕ) → position is_greater t ≡ None → NoGreater t
first_lone t h = subst NoGreater (take_all (position_or_len is_greater t) t (found_none is_greater t h)) (no_greater_before t)

-- as many bytes of numbers as there are
figures_before : (t : List ℕ) → Figures (take (position_or_len no_figure t) t)
unfolding role
figures_before [] = tt
figures_before (b ∷ t) = go (figures_before t) (figure_kind (kind b)) refl
  where
    go : Figures (take (position_or_len no_figure t) t) → (x : Bool) → figure_kind (kind b) ≡ x → Figures (take (cond (not (not x)) (1 + position_or_len no_figure t) 0) (b ∷ t))
    go ih true e = rw one-add (figure_role (kind b) e, ih)
    go ih false e = tt

quits_after : (t : List ℕ) → Quits (drop (position_or_len no_figure t) t)
unfolding role
quits_after [] = tt
quits_after (b ∷ t) = go (quits_after t) (figure_kind (kind b)) refl
  where
    go : Quits (drop (position_or_len no_figure t) t) → (x : Bool) → figure_kind (kind b) ≡ x → Quits (drop (cond (not (not x)) (1 + position_or_len no_figure t) 0) (b ∷ t))
    go ih true e = rw one-add ih
    go ih false e = λ g. false≢true (sym e ∙ role_figure (kind b) g)

some_figure : (t : List ℕ) → figure_kind (kind (slice_index t 0)) ≡ true → 1 ≤ position_or_len no_figure t
unfolding kind
some_figure [] e = let z : ⊥ = false≢true e in absurd z
some_figure (b ∷ t) e = rw e (omega arith)

-- the kind of the first byte
pub front_back : (t : List ℕ) → 1 ≤ length t → slice_index t 0 ∷ take (length t - 1) (drop 1 t) ≡ t
front_back [] h = absurd (omega arith)
front_back (b ∷ t) h = ap (λ l. b ∷ l) (take_all (length (b ∷ t) - 1) t (omega arith))

module _ (b : ℕ) (k : Kind) (e : k ≡ kind b) where
  pub kind_role : role b ≡ of_kind k
  unfolding role
  kind_role = ap of_kind (sym e)

  pub kind_stray : false ≡ figure_kind k → (k ≡ Less → ⊥) → (k ≡ Blank → ⊥) → StrayRole (role b)
  kind_stray f l s = subst StrayRole (sym kind_role) (go k f l s)
    where
      go : (k : Kind) → false ≡ figure_kind k → (k ≡ Less → ⊥) → (k ≡ Blank → ⊥) → StrayRole (of_kind k)
      go Letter f l s = tt
      go Digit f l s = false≢true f
      go Hyphen f l s = false≢true f
      go Point f l s = false≢true f
      go Less f l s = l refl
      go Greater f l s = tt
      go Slash f l s = tt
      go Blank f l s = s refl
      go Other f l s = tt

not_empty : (ds : List ℕ) → 1 ≤ length ds → NotEmpty ds
not_empty [] h = absurd (omega arith)
not_empty (d ∷ ds) h = tt

-- the first n bytes are a number
pub first_number : (t : List ℕ) (n : ℕ) (r : List ℕ) → n ≡ unwrap_or (position no_figure t) (length t) → r ≡ drop n t → figure_kind (kind (slice_index t 0)) ≡ true →
    (take n t ++ r ≡ t) × (NotEmpty (take n t) × Figures (take n t) × Quits (text (items r)))
first_number t n r h e f =
    let k : ℕ = position_or_len no_figure t in
    let m = some_figure t f in
    let b : k ≤ length t = prefix_len-le-length (λ x. not (no_figure x)) t in
    let q : n ≡ k = h ∙ found_or t in
    let l = length-take-le k t b in (
      ap (λ x. take n t ++ x) e ∙ take-append-drop n t,
      (
        subst (λ x. NotEmpty (take x t)) (sym q) (not_empty (take k t) (omega arith)),
        subst (λ x. Figures (take x t)) (sym q) (figures_before t),
        subst Quits (sym (items_text r ∙ (e ∙ ap (λ x. drop x t) q))) (quits_after t),
      ),
    )
  where
    found_or : (t : List ℕ) → unwrap_or (position no_figure t) (length t) ≡ position_or_len no_figure t
    found_or t = go (nat_lt (position_or_len no_figure t) (length t)) refl
      where
        go : (x : Bool) → nat_lt (position_or_len no_figure t) (length t) ≡ x → unwrap_or (cond x (Some (position_or_len no_figure t)) None) (length t) ≡ position_or_len no_figure t
        go true e = refl
        go false e = let a = ltb-false (position_or_len no_figure t) (length t) e in let b = prefix_len-le-length (λ x. not (no_figure x)) t in omega arith

-- the cutter before an item and after it
module _ (c c' : Cutter) (x : Placed) (h : Cuts c (Some x) c') where
  abbrev pub cut_item : Item
  cut_item = item_of c.rest.now x.item

  pub cut_left : left c ≡ cut_item ∷ left c'
  cut_left = first_items c.rest.now c'.rest.now cut_item h.1.0 h.1.1

  pub cut_shorter : length c'.rest.now < length c.rest.now
  cut_shorter = let n = first_length c.rest.now c'.rest.now cut_item h.1.0 h.1.1 in let m = some_bytes cut_item (items c'.rest.now) h.1.1 in omega arith

  pub cut_end : x.start + length (bytes cut_item) ≡ x.end
  cut_end =
      let n = first_length c.rest.now c'.rest.now cut_item h.1.0 h.1.1 in
      let w = c.within in
      omega (arith, h.0, h.2, h.3)

  pub cut_from : from c + length (bytes cut_item) ≡ from c'
  cut_from = let e = cut_end in omega (arith, h.2, h.3)
