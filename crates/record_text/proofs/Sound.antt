-- What the reader of items passes, the grammar derives.
use Rattle.std.proofs.Common.{◌≡◌, ℕ, suc, ◌+◌, ◌<◌, ◌≤◌, Bool, true, false, cond, eqb, List, [], ◌∷◌, ◌++◌, length, get_or, take, ℤ, Some, None, Option as Maybe, sym, refl, ap, ◌∙◌, subst, append_assoc, append-nil, arith, length-append}
use mathlib.Core.Bool.{false≢true}
use mathlib.Core.Option.{Option, some, none}
use Rattle.std.proofs.lemmas.Bool.{eqb-true, and_parts}
use Rattle.std.proofs.lemmas.List.{take_more, take_all}
use Rattle.record_text.specs.declared.entry.Entry.{Entry}
use Rattle.lexical.specs.declared.kinds.Kind.TheVariants.{Blank}
use Rattle.lexical.specs.Kinds.{kind}
use Rattle.lexical.specs.Words.{word}
use Rattle.lexical.specs.Numbers.{Number, number}
use Rattle.lexical.proofs.NumberFacts.{number_rule}
use Rattle.record_text.specs.Grammar.{Item, gap, tag, num, stray, lone, bytes, text, size, opening, closing, Blanks, no_blank, one_more, Content, nothing, blank, element, Element, hollow, around, holding, Fits}
use Rattle.record_text.specs.Machine.{Open, Held, blanks, elements, value, Shape, shape, opened, Tag, opens, closes, whole, bad, named, tag_of, same, close, free, move_num, move_tag, move, after, runs}
use Rattle.record_text.proofs.Complete.{Free, size-++}

-- An unfinished text: the items so far, by the open elements.
pub data Spine : List Item → ℕ → List Open → Held → Type 0 where
  top : {is : List Item} {es : List Entry} → Content 0 0 is es → Spine is (length es) [] elements
  fresh : {is : List Item} {n : ℕ} {up : List Open} {h : Held} {js : List Item} → Spine is n up h → Free h → (w : List ℕ) → word w ≡ true → Blanks js →
      Spine (is ++ (opening w ∷ js)) (n + 1) (opened w (size is) n ∷ up) blanks
  inner : {is : List Item} {n : ℕ} {up : List Open} {h : Held} {js : List Item} {es : List Entry} → Spine is n up h → Free h → (w : List ℕ) → word w ≡ true →
      Content (size is + length (bytes (opening w))) (suc (length up)) js es →
      Spine (is ++ (opening w ∷ js)) (n + 1 + length es) (opened w (size is) n ∷ up) elements
  filled : {is : List Item} {n : ℕ} {up : List Open} {h : Held} {bs cs : List Item} → Spine is n up h → Free h → (w : List ℕ) → word w ≡ true →
      Blanks bs → (ds : List ℕ) (v : ℤ) → Number ds v → Blanks cs →
      Spine (is ++ (opening w ∷ (bs ++ num ds ∷ cs))) (n + 1) (opened w (size is) n ∷ up) (value v)

at_nodes : {is : List Item} {up : List Open} {h : Held} (m n : ℕ) → m ≡ n → Spine is m up h → Spine is n up h
at_nodes {is} {up} {h} m n e s = subst (λ k. Spine is k up h) e s

at_items : {n : ℕ} {up : List Open} {h : Held} (is js : List Item) → is ≡ js → Spine is n up h → Spine js n up h
at_items {n} {up} {h} is js e s = subst (λ k. Spine k n up h) e s

blank_content : {p d : ℕ} {bs : List Item} → Blanks bs → Content p d bs []
blank_content no_blank = nothing
blank_content (one_more r b k) = blank (blank_content r) b k

at_place : {d : ℕ} {js : List Item} {fs : List Entry} (p q : ℕ) → p ≡ q → Element p d js fs → Element q d js fs
at_place {d} {js} {fs} p q e x = subst (λ k. Element k d js fs) e x

-- a whole element more
more_element : {is : List Item} {n : ℕ} {up : List Open} {h : Held} {js : List Item} {fs : List Entry} → Spine is n up h → Free h →
    Element (size is) (length up) js fs → Spine (is ++ js) (n + length fs) up elements
more_element {js = js} {fs = fs} (top {is} {es} c) f e =
    at_nodes (length (es ++ fs)) _ (length-append es fs) (top (element c (at_place (size is) (0 + size is) (omega arith) e)))
more_element {js = js} {fs = fs} (fresh {is} {n} {js = bs} s g w k B) f e =
    let q : size (is ++ (opening w ∷ bs)) ≡ (size is + length (bytes (opening w))) + size bs = omega (arith, size-++ is (opening w ∷ bs), length-append (bytes (opening w)) (text bs)) in
    at_items _ _ (sym (append_assoc is (opening w ∷ bs) js))
    (at_nodes _ _ refl (inner s g w k (element (blank_content B) (at_place _ _ q e))))
more_element {js = js} {fs = fs} (inner {is} {n} {js = bs} {es} s g w k c) f e =
    let q : size (is ++ (opening w ∷ bs)) ≡ (size is + length (bytes (opening w))) + size bs = omega (arith, size-++ is (opening w ∷ bs), length-append (bytes (opening w)) (text bs)) in
    at_items _ _ (sym (append_assoc is (opening w ∷ bs) js))
    (at_nodes (n + 1 + length (es ++ fs)) (n + 1 + length es + length fs) (omega (arith, length-append es fs)) (inner s g w k (element c (at_place _ _ q e))))
more_element (filled s g w k B ds v x C) f e = absurd f

-- the innermost element ends
pub ended : {is : List Item} {n : ℕ} {o : Open} {up : List Open} {h : Held} → Spine is n (o ∷ up) h → Spine (is ++ closing o.name ∷ []) n up elements
ended (fresh {is} {js = bs} s g w k B) =
    at_items _ _ (sym (append_assoc is (opening w ∷ bs) (closing w ∷ []))) (more_element s g (around w k (blank_content B)))
ended (inner {is} {n} {js = bs} {es} s g w k c) =
    at_items _ _ (sym (append_assoc is (opening w ∷ bs) (closing w ∷ []))) (at_nodes (n + suc (length es)) (n + 1 + length es) (omega arith) (more_element s g (around w k c)))
ended (filled {is} {bs = bs} {cs} s g w k B ds v x C) =
    at_items _ _ (simp append_assoc) (more_element s g (holding w k B ds v x C))

-- an unfinished text can be finished
pub finished : (up : List Open) {is : List Item} {n : ℕ} {h : Held} → Spine is n up h → Fits is
finished [] {is} (top {es = es} c) = ([], es, subst (λ k. Content 0 0 k es) (sym (append-nil is)) c)
finished (o ∷ up) {is} s =
    let r = finished up (ended s) in
    (closing o.name ∷ r.0, r.1, subst (λ k. Content 0 0 k r.1) (append_assoc is (closing o.name ∷ []) r.0) r.2)

-- what a tag says
abbrev pub TagIs : List ℕ → Tag → Type 0
TagIs bs (opens w) = (bs ≡ w) × (word w ≡ true)
TagIs bs (closes w) = (bs ≡ 47 ∷ w) × (word w ≡ true)
TagIs bs (whole w) = (bs ≡ w ++ 47 ∷ []) × (word w ≡ true)
TagIs bs bad = Unit {0}

named_tag : (bs : List ℕ) (f : List ℕ → Tag) (w : List ℕ) → (word w ≡ true → TagIs bs (f w)) → TagIs bs (named f w)
named_tag bs f w h = go (word w) h
  where
    go : (b : Bool) → (b ≡ true → TagIs bs (f w)) → TagIs bs (cond b (f w) bad)
    go true k = k refl
    go false k = tt

tag_cases : (bs : List ℕ) (x y : Bool) (s t u : Tag) → (x ≡ true → TagIs bs s) → (y ≡ true → TagIs bs t) → TagIs bs u → TagIs bs (cond x s (cond y t u))
tag_cases bs true y s t u f g h = f refl
tag_cases bs false true s t u f g h = g refl
tag_cases bs false false s t u f g h = h

last_slash : (b : ℕ) (bs : List ℕ) → eqb (get_or (b ∷ bs) (length bs) 0) 47 ≡ true → ◌≡◌ {A = List ℕ} (b ∷ bs) (take (length bs) (b ∷ bs) ++ 47 ∷ [])
last_slash b bs e =
    let l : length bs < length (b ∷ bs) = omega arith in
    let m : length (b ∷ bs) ≤ length bs + 1 = omega arith in
    sym (take_all (length bs + 1) (b ∷ bs) m) ∙ (take_more (b ∷ bs) (length bs) 0 l ∙ ap (λ x. take (length bs) (b ∷ bs) ++ x ∷ []) (eqb-true _ 47 e))

pub tag_is : (bs : List ℕ) → TagIs bs (tag_of bs)
unfolding tag_of
tag_is [] = tt
tag_is (b ∷ bs) =
    tag_cases (b ∷ bs) (eqb b 47) (eqb (get_or (b ∷ bs) (length bs) 0) 47) _ _ _
    (λ e. named_tag (b ∷ bs) closes bs (λ k. (ap (λ c. c ∷ bs) (eqb-true b 47 e), k)))
    (λ e. named_tag (b ∷ bs) whole (take (length bs) (b ∷ bs)) (λ k. (last_slash b bs e, k)))
    (named_tag (b ∷ bs) opens (b ∷ bs) (λ k. (refl, k)))

-- one item
abbrev pub Proper : Item → Type 0
Proper (gap b) = kind b ≡ Blank
Proper (tag bs) = Unit {0}
Proper (num ds) = Unit {0}
Proper (stray b) = Unit {0}
Proper (lone bs) = Unit {0}

abbrev pub Stands : List Item → Shape → Type 0
Stands is s = Spine is s.nodes s.up s.held

moved : (is : List Item) (s s' : Shape) → Stands is s → ◌≡◌ {A = Option Shape} (some s) (some s') → Stands is s'
moved is s s' x e = let q : s ≡ s' = cc in subst (Stands is) q x

pub nowhere : {X : Type 0} (s : Shape) → ◌≡◌ {A = Option Shape} none (some s) → X
nowhere s e = let z : ◌≡◌ {A = ℕ} 0 1 = cc in absurd (omega arith)

more_blank : {is : List Item} {n : ℕ} {up : List Open} {h : Held} (b : ℕ) → kind b ≡ Blank → Spine is n up h → Spine (is ++ gap b ∷ []) n up h
more_blank b k (top c) = top (blank c b k)
more_blank b k (fresh {is} {js = js} s g w e B) = at_items _ _ (simp append_assoc) (fresh s g w e (one_more B b k))
more_blank b k (inner {is} {js = js} s g w e c) = at_items _ _ (simp append_assoc) (inner s g w e (blank c b k))
more_blank b k (filled {is} {bs = bs} {cs} s g w e B ds v x C) = at_items _ _ (simp append_assoc) (filled s g w e B ds v x (one_more C b k))

more_number : {is : List Item} {n : ℕ} {up : List Open} (ds : List ℕ) (v : ℤ) → Number ds v → Spine is n up blanks → Spine (is ++ num ds ∷ []) n up (value v)
more_number ds v x (fresh {is} {js = js} s g w e B) = at_items _ _ (simp append_assoc) (filled s g w e B ds v x no_blank)

same_true : (v w : List ℕ) → same v w ≡ true → v ≡ w
same_true [] [] e = refl
same_true [] (y ∷ ys) e = absurd (false≢true e)
same_true (x ∷ xs) [] e = absurd (false≢true e)
same_true (x ∷ xs) (y ∷ ys) e =
    let p = and_parts (eqb x y) (same xs ys) e in
    let a : x ≡ y = eqb-true x y p.0 in
    let b : xs ≡ ys = same_true xs ys p.1 in
    cc

pub free_some : (h : Held) (s s' : Shape) → free h (some s) ≡ some s' → Free h × (◌≡◌ {A = Option Shape} (some s) (some s'))
free_some blanks s s' e = (tt, e)
free_some elements s s' e = (tt, e)
free_some (value v) s s' e = nowhere s' e

close_sound : {is : List Item} (w : List ℕ) (n : ℕ) (up : List Open) {h : Held} (s' : Shape) → Spine is n up h → close w n up ≡ some s' → Stands (is ++ closing w ∷ []) s'
close_sound w n [] s' sp e = nowhere s' e
close_sound {is} w n (o ∷ up) s' sp e = go (same w o.name) (same_true w o.name) e
  where
    go : (b : Bool) → (b ≡ true → w ≡ o.name) → cond b (some (shape n up elements)) none ≡ some s' → Stands (is ++ closing w ∷ []) s'
    go true q e = moved _ _ s' (subst (λ x. Spine (is ++ closing x ∷ []) n up elements) (sym (q refl)) (ended sp)) e
    go false q e = nowhere s' e

tag_sound : {is : List Item} {n : ℕ} {up : List Open} {h : Held} → (bs : List ℕ) (t : Tag) (s' : Shape) → Spine is n up h → TagIs bs t → move_tag (size is) (shape n up h) t ≡ some s' → Stands (is ++ tag bs ∷ []) s'
tag_sound {is} {n} {up} {h} bs (opens w) s' sp k e =
    let r = free_some h _ s' e in
    subst (λ b. Stands (is ++ tag b ∷ []) s') (sym k.0) (moved _ _ s' (fresh sp r.0 w k.1 no_blank) r.1)
tag_sound {is} {n} {up} {h} bs (closes w) s' sp k e =
    subst (λ b. Stands (is ++ tag b ∷ []) s') (sym k.0) (close_sound w n up s' sp e)
tag_sound {is} {n} {up} {h} bs (whole w) s' sp k e =
    let r = free_some h _ s' e in
    subst (λ b. Stands (is ++ tag b ∷ []) s') (sym k.0) (moved _ _ s' (more_element sp r.0 (hollow w k.1)) r.1)
tag_sound bs bad s' sp k e = nowhere s' e

num_sound : {is : List Item} {n : ℕ} {up : List Open} (h : Held) (ds : List ℕ) (v : Maybe ℤ) (s' : Shape) → number ds ≡ v → Spine is n up h → move_num (shape n up h) h v ≡ some s' → Stands (is ++ num ds ∷ []) s'
num_sound blanks ds None s' x sp e = nowhere s' e
num_sound blanks ds (Some v) s' x sp e = moved _ _ s' (more_number ds v ((number_rule ds v).0 x) sp) e
num_sound elements ds v s' x sp e = nowhere s' e
num_sound (value y) ds v s' x sp e = nowhere s' e

pub move_sound : {is : List Item} (i : Item) (s s' : Shape) → Proper i → Stands is s → move (size is) s i ≡ some s' → Stands (is ++ i ∷ []) s'
move_sound (gap b) s s' k sp e = moved _ s s' (more_blank b k sp) e
move_sound (tag bs) s s' k sp e = tag_sound bs (tag_of bs) s' sp (tag_is bs) e
move_sound (num ds) s s' k sp e = num_sound s.held ds (number ds) s' refl sp e
move_sound (stray b) s s' k sp e = nowhere s' e
move_sound (lone bs) s s' k sp e = nowhere s' e

abbrev pub AllProper : List Item → Type 0
AllProper [] = Unit {0}
AllProper (i ∷ is) = Proper i × AllProper is

pub after_some : (o : Option Shape) (f : Shape → Option Shape) (s' : Shape) → after o f ≡ some s' → (t : Shape) × (o ≡ some t) × (f t ≡ some s')
after_some none f s' e = nowhere s' e
after_some (some t) f s' e = (t, refl, e)

pub runs_sound : (is js : List Item) (s s' : Shape) → AllProper js → Stands is s → runs (size is) s js ≡ some s' → Stands (is ++ js) s'
runs_sound is [] s s' k sp e = subst (λ l. Stands l s') (sym (append-nil is)) (moved is s s' sp e)
runs_sound is (j ∷ js) s s' k sp e =
    let r = after_some (move (size is) s j) _ s' e in
    let q : size is + length (bytes j) ≡ size (is ++ j ∷ []) = omega (arith, size-++ is (j ∷ []), length-append (bytes j) []) in
    subst (λ l. Stands l s') (append_assoc is (j ∷ []) js)
    (runs_sound (is ++ j ∷ []) js r.0 s' k.1 (move_sound j s r.0 k.0 sp r.1) (subst (λ n. runs n r.0 js ≡ some s') q r.2))
