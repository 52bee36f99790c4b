-- The nodes of an accepted text have the shape of a record.
use Rattle.std.proofs.Common.{◌≡◌, ℕ, suc, ◌+◌, ◌<◌, ◌≤◌, Bool, true, false, ◌&&◌, ◌||◌, leb, List, [], ◌∷◌, ◌++◌, length, sym, refl, ap, ◌∙◌, subst, append_assoc, append-nil, arith, length-append}
use mathlib.Core.Bool.{false≢true}
use mathlib.Core.Option.{some}
use Rattle.std.proofs.lemmas.Bool.{leb-false}
use Rattle.record_text.specs.declared.entry.Entry.{Entry}
use Rattle.lexical.proofs.NumberFacts.{number_rule}
use Rattle.records.specs.Limits.{most_nodes, most_levels}
use Rattle.records.specs.Nodes.{next_depth}
use Rattle.record_text.specs.Grammar.{Item, gap, tag, num, bytes, text, size, opening, closing, alone, Blanks, no_blank, one_more, Content, nothing, blank, element, Element, hollow, around, holding}
use Rattle.record_text.specs.Reading.{Outcome, accepted}
use Rattle.record_text.specs.Opening.{Reads}
use Rattle.record_text.specs.Machine.{Open, Held, blanks, elements, value, Shape, shape, opened, Tag, opens, whole, tag_of, move, move_num}
use Rattle.record_text.proofs.Complete.{Free, opening_tag, alone_tag, open_move, close_move, alone_move, size-++}
use Rattle.record_text.proofs.Read.{starts, over, decide, check, start}
use Rattle.record_text.proofs.Only.{only, items_are}
use Rattle.record_text.proofs.Fill.{size_holding}

-- the first depth is at most m, and each further one at most what may follow the node before it
abbrev pub From : ℕ → List Entry → Type 0
From m [] = Unit {0}
From m (e ∷ es) = (e.depth ≤ m) × From (next_depth e.value e.depth) es

abbrev pub Shallow : List Entry → Type 0
Shallow [] = Unit {0}
Shallow (e ∷ es) = (e.depth < most_levels) × Shallow es

mutual
  content_from : {p d : ℕ} {is : List Item} {es : List Entry} → Content p d is es → (m : ℕ) → d ≤ m → (fs : List Entry) → ((k : ℕ) → d ≤ k → From k fs) → From m (es ++ fs)
  content_from nothing m h fs f = f m h
  content_from (blank c b k) m h fs f = content_from c m h fs f
  content_from (element {es = es} {fs = gs} c e) m h fs f =
      subst (From m) (sym (append_assoc es gs fs)) (content_from c m h (gs ++ fs) (λ k l. element_from e k l fs f))

  element_from : {p d : ℕ} {is : List Item} {es : List Entry} → Element p d is es → (m : ℕ) → d ≤ m → (fs : List Entry) → ((k : ℕ) → d ≤ k → From k fs) → From m (es ++ fs)
  element_from (hollow {d = d} w k) m h fs f = (h, f (d + 1) (omega arith))
  element_from (around {d = d} w k c) m h fs f = (h, content_from c (d + 1) (omega arith) fs (λ n l. f n (omega arith)))
  element_from (holding {d = d} w k B ds v e C) m h fs f = (h, f d (omega arith))

-- the limits, where the check accepts
decided : (p n : ℕ) (b : Bool) (s : Shape) (f : Shape → Outcome) → decide p b (some s) f ≡ accepted n → (b ≡ false) × (f s ≡ accepted n)
decided p n true s f e = let z : ◌≡◌ {A = ℕ} 0 1 = cc in absurd (omega arith)
decided p n false s f e = (refl, e)

check-∷ : (p n : ℕ) (s s' : Shape) (i : Item) (is : List Item) → move p s i ≡ some s' → check p s (i ∷ is) ≡ accepted n → (over s i ≡ false) × (check (p + length (bytes i)) s' is ≡ accepted n)
check-∷ p n s s' i is m e =
    decided p n (over s i) s' (λ x. check (p + length (bytes i)) x is) (sym (ap (λ o. decide p (over s i) o (λ x. check (p + length (bytes i)) x is)) m) ∙ e)

pub none_over : (x y : Bool) → (x || y) ≡ false → (x ≡ false) × (y ≡ false)
none_over true y e = absurd (false≢true (sym e))
none_over false y e = (refl, e)

limits : (n : ℕ) (up : List Open) (h : Held) (bs : List ℕ) (t : Tag) → tag_of bs ≡ t → starts t ≡ true → over (shape n up h) (tag bs) ≡ false → (n < most_nodes) × (length up < most_levels)
limits n up h bs t e st o =
    let q : (true && (leb most_nodes n || leb most_levels (length up))) ≡ false = sym (ap (λ b. b && (leb most_nodes n || leb most_levels (length up))) (ap starts e ∙ st)) ∙ o in
    let r = none_over (leb most_nodes n) (leb most_levels (length up)) q in
    (leb-false most_nodes n r.0, leb-false most_levels (length up) r.1)

blanks_check : {bs : List Item} → Blanks bs → (p n : ℕ) (s : Shape) (is : List Item) → check p s (bs ++ is) ≡ accepted n → check (p + size bs) s is ≡ accepted n
blanks_check no_blank p n s is e = subst (λ q. check q s is ≡ accepted n) (omega arith) e
blanks_check (one_more {is = bs} r b k) p n s is e =
    let a = blanks_check r p n s (gap b ∷ is) (subst (λ l. check p s l ≡ accepted n) (append_assoc bs (gap b ∷ []) is) e) in
    subst (λ q. check q s is ≡ accepted n) (omega (arith, size-++ bs (gap b ∷ []))) (check-∷ (p + size bs) n s s (gap b) is refl a).1

shallow-++ : (es fs : List Entry) → Shallow es → Shallow fs → Shallow (es ++ fs)
shallow-++ [] fs a b = b
shallow-++ (e ∷ es) fs a b = (a.0, shallow-++ es fs a.1 b)

at_check : (p q m n : ℕ) (up : List Open) (h : Held) (is : List Item) (k : ℕ) → p ≡ q → m ≡ n → check p (shape m up h) is ≡ accepted k → check q (shape n up h) is ≡ accepted k
at_check p q m n up h is k a b e = subst (λ x. check x (shape n up h) is ≡ accepted k) a (subst (λ x. check p (shape x up h) is ≡ accepted k) b e)

record Kept (p n : ℕ) (up : List Open) (is : List Item) (es : List Entry) (js : List Item) (k : ℕ) : Type 0 where
  shallow : Shallow es
  few : n + length es ≤ most_nodes
  held : Held
  free : Free held
  goes : check (p + size is) (shape (n + length es) up held) js ≡ accepted k

mutual
  content_limits : {p d : ℕ} {is : List Item} {es : List Entry} → Content p d is es → (n : ℕ) (up : List Open) (h : Held) → Free h → length up ≡ d → n ≤ most_nodes → (js : List Item) (k : ℕ) →
      check p (shape n up h) (is ++ js) ≡ accepted k → Kept p n up is es js k
  content_limits (nothing {p}) n up h f u b js k e =
      record { shallow = tt; few = omega arith; held = h; free = f; goes = at_check p (p + 0) n (n + 0) up h js k (omega arith) (omega arith) e }
  content_limits (blank {p} {d} {is} {es} c x y) n up h f u b js k e =
      let r = content_limits c n up h f u b (gap x ∷ js) k (subst (λ l. check p (shape n up h) l ≡ accepted k) (append_assoc is (gap x ∷ []) js) e) in
      let s : Shape = shape (n + length es) up r.held in
      record {
        shallow = r.shallow;
        few = r.few;
        held = r.held;
        free = r.free;
        goes = at_check (p + size is + 1) (p + size (is ++ gap x ∷ [])) _ _ up r.held js k (omega (arith, size-++ is (gap x ∷ []))) refl (check-∷ (p + size is) k s s (gap x) js refl r.goes).1;
      }
  content_limits (element {p} {d} {is} {es} {js = gs} {fs} c x) n up h f u b js k e =
      let r = content_limits c n up h f u b (gs ++ js) k (subst (λ l. check p (shape n up h) l ≡ accepted k) (append_assoc is gs js) e) in
      let q = element_limits x (n + length es) up r.held r.free u r.few js k r.goes in
      let l = length-append es fs in
      record {
        shallow = shallow-++ es fs r.shallow q.shallow;
        few = omega (arith, q.few);
        held = q.held;
        free = q.free;
        goes = at_check (p + size is + size gs) (p + size (is ++ gs)) (n + length es + length fs) (n + length (es ++ fs)) up q.held js k (omega (arith, size-++ is gs)) (omega arith) q.goes;
      }

  element_limits : {p d : ℕ} {is : List Item} {es : List Entry} → Element p d is es → (n : ℕ) (up : List Open) (h : Held) → Free h → length up ≡ d → n ≤ most_nodes → (js : List Item) (k : ℕ) →
      check p (shape n up h) (is ++ js) ≡ accepted k → Kept p n up is es js k
  element_limits (hollow {p} w x) n up h f u b js k e =
      let r = check-∷ p k (shape n up h) _ (alone w) js (alone_move p n up h w x f) e in
      let l = limits n up h (w ++ 47 ∷ []) (whole w) (alone_tag w x) refl r.0 in
      record {
        shallow = (omega arith, tt);
        few = omega arith;
        held = elements;
        free = tt;
        goes = at_check (p + length (bytes (alone w))) _ (n + 1) (n + 1) up elements js k (omega (arith, length-append (bytes (alone w)) [])) refl r.1;
      }
  element_limits (around {p} {d} {is} {es} w x c) n up h f u b js k e =
      let o : Open = opened w p n in
      let q : ℕ = p + length (bytes (opening w)) in
      let r = check-∷ p k (shape n up h) _ (opening w) ((is ++ closing w ∷ []) ++ js) (open_move p n up h w x f) e in
      let l = limits n up h w (opens w) (opening_tag w x) refl r.0 in
      let i = content_limits c (n + 1) (o ∷ up) blanks tt (ap suc u) (omega arith) (closing w ∷ js) k (subst (λ y. check q (shape (n + 1) (o ∷ up) blanks) y ≡ accepted k) (append_assoc is (closing w ∷ []) js) r.1) in
      let m : ℕ = n + 1 + length es in
      let z = check-∷ (q + size is) k (shape m (o ∷ up) i.held) _ (closing w) js (close_move (q + size is) m up i.held w x p n) i.goes in
      record {
        shallow = (omega arith, i.shallow);
        few = omega (arith, i.few);
        held = elements;
        free = tt;
        goes = at_check (q + size is + length (bytes (closing w))) _ m (n + suc (length es)) up elements js k
            (omega (arith, length-append (bytes (opening w)) (text (is ++ closing w ∷ [])), size-++ is (closing w ∷ []), length-append (bytes (closing w)) [])) (omega arith) z.1;
      }
  element_limits (holding {p} {d} {bs} {cs} w x B ds v y C) n up h f u b js k e =
      let o : Open = opened w p n in
      let q : ℕ = p + length (bytes (opening w)) in
      let s : Shape = shape (n + 1) (o ∷ up) blanks in
      let s' : Shape = shape (n + 1) (o ∷ up) (value v) in
      let r = check-∷ p k (shape n up h) s (opening w) ((bs ++ num ds ∷ (cs ++ closing w ∷ [])) ++ js) (open_move p n up h w x f) e in
      let l = limits n up h w (opens w) (opening_tag w x) refl r.0 in
      let j : (bs ++ num ds ∷ (cs ++ closing w ∷ [])) ++ js ≡ bs ++ num ds ∷ (cs ++ closing w ∷ js) = simp append_assoc in
      let a = blanks_check B q k s (num ds ∷ (cs ++ closing w ∷ js)) (subst (λ z. check q s z ≡ accepted k) j r.1) in
      let g = check-∷ (q + size bs) k s s' (num ds) (cs ++ closing w ∷ js) (ap (move_num s blanks) ((number_rule ds v).1 y)) a in
      let c = blanks_check C (q + size bs + length ds) k s' (closing w ∷ js) g.1 in
      let q₃ : ℕ = q + size bs + length ds + size cs in
      let z = check-∷ q₃ k s' _ (closing w) js (close_move q₃ (n + 1) up (value v) w x p n) c in
      record {
        shallow = (omega arith, tt);
        few = omega arith;
        held = elements;
        free = tt;
        goes = at_check (q₃ + length (bytes (closing w))) _ (n + 1) (n + 1) up elements js k (omega (arith, size_holding w bs ds cs)) refl z.1;
      }

pub depths : (t : List ℕ) (es : List Entry) → Reads t es → From 0 es × Shallow es × (length es ≤ most_nodes)
depths t es (is, io, c, w) =
    let n = length es in
    let e : check 0 start is ≡ accepted n = sym (ap (check 0 start) (items_are t is io)) ∙ only t (accepted n) (is, es, io, c, w, refl) in
    let r = content_limits c 0 [] elements tt refl (omega arith) [] n (subst (λ l. check 0 start l ≡ accepted n) (sym (append-nil is)) e) in
    (subst (From 0) (append-nil es) (content_from c 0 (omega arith) [] (λ k h. tt)), r.shallow, omega (arith, r.few))
