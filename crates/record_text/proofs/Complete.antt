-- What the grammar derives, the reader of items passes.
use Rattle.std.proofs.Common.{◌≡◌, ℕ, zero, suc, ◌+◌, ◌<◌, Bool, true, false, cond, eqb, leb, List, [], ◌∷◌, ◌++◌, length, get_or, sym, refl, ap, ◌∙◌, subst, append_assoc, arith, length-append}
use Rattle.std.specs.List.{list_all}
use mathlib.Core.Bool.{false≢true}
use mathlib.Core.Option.{Option, some, none}
use Rattle.std.proofs.lemmas.Bool.{ne_eqb, eq-eqb, and_parts}
use Rattle.std.proofs.lemmas.List.{get_or_at, take_at, length_push}
use Rattle.record_text.specs.declared.entry.Entry.{Entry}
use Rattle.lexical.specs.declared.kinds.Kind.{Kind}
use Rattle.lexical.specs.declared.kinds.Kind.TheVariants.{Letter, Digit, Hyphen, Point, Less, Greater, Slash, Blank, Other}
use Rattle.lexical.specs.Kinds.{kind}
use Rattle.lexical.specs.Words.{longest_word, word, spelled, begins_word, continues_word}
use Rattle.lexical.proofs.NumberFacts.{number_rule}
use Rattle.record_text.specs.Grammar.{Item, gap, num, bytes, text, size, opening, closing, alone, Blanks, no_blank, one_more, Content, nothing, blank, element, Element, hollow, around, holding}
use Rattle.record_text.specs.Machine.{named, move_num, Open, Held, blanks, elements, value, Shape, shape, opened, Tag, opens, closes, whole, tag_of, same, free, move_tag, move, after, runs}

abbrev pub Free : Held → Type 0
Free blanks = Unit {0}
Free elements = Unit {0}
Free (value v) = ⊥

pub text-++ : (is js : List Item) → text (is ++ js) ≡ text is ++ text js
text-++ [] js = refl
text-++ (i ∷ is) js = ap (λ t. bytes i ++ t) (text-++ is js) ∙ sym (append_assoc (bytes i) (text is) (text js))

pub size-++ : (is js : List Item) → size (is ++ js) ≡ size is + size js
size-++ is js = ap length (text-++ is js) ∙ length-append (text is) (text js)

-- the reader passes `is`, and goes on
after-++ : (o : Option Shape) (f g : Shape → Option Shape) (s' : Shape) (r : Option Shape) →
    ((t : Shape) → f t ≡ some s' → g t ≡ r) → after o f ≡ some s' → after o g ≡ r
after-++ none f g s' r h e = let z : ◌≡◌ {A = ℕ} 0 1 = cc in absurd (omega arith)
after-++ (some t) f g s' r h e = h t e

pub runs-++ : (p : ℕ) (s : Shape) (is js : List Item) (s' : Shape) → runs p s is ≡ some s' → runs p s (is ++ js) ≡ runs (p + size is) s' js
runs-++ p s [] js s' e =
    let q : p ≡ p + 0 = omega arith in
    let z : s ≡ s' = cc in
    cc
runs-++ p s (i ∷ is) js s' e =
    let q : (p + length (bytes i)) + size is ≡ p + size (i ∷ is) = omega (arith, length-append (bytes i) (text is)) in
    after-++ (move p s i) _ _ s' _ (λ t f. runs-++ (p + length (bytes i)) t is js s' f ∙ ap (λ n. runs n s' js) q) e

-- tags
pub all_get_d : (P : ℕ → Bool) (xs : List ℕ) (k : ℕ) → list_all P xs ≡ true → k < length xs → P (get_or xs k 0) ≡ true
all_get_d P [] k e h = absurd (omega arith)
all_get_d P (x ∷ xs) zero e h = (and_parts (P x) (list_all P xs) e).0
all_get_d P (x ∷ xs) (suc k) e h = all_get_d P xs k (and_parts (P x) (list_all P xs) e).1 (omega arith)

unfoldable pub name_byte : ℕ → Bool
name_byte c = continues_word (kind c)

first_continues : (k : Kind) → begins_word k ≡ true → continues_word k ≡ true
first_continues Letter e = refl
first_continues Digit e = absurd (false≢true e)
first_continues Hyphen e = absurd (false≢true e)
first_continues Point e = absurd (false≢true e)
first_continues Less e = absurd (false≢true e)
first_continues Greater e = absurd (false≢true e)
first_continues Slash e = absurd (false≢true e)
first_continues Blank e = absurd (false≢true e)
first_continues Other e = absurd (false≢true e)

spelled_all : (w : List ℕ) → spelled w ≡ true → list_all name_byte w ≡ true
unfolding spelled name_byte
spelled_all [] e = absurd (false≢true e)
spelled_all (b ∷ bs) e =
    let p = and_parts (begins_word (kind b)) (list_all (λ c. continues_word (kind c)) bs) e in
    let f = first_continues (kind b) p.0 in
    let g = p.1 in
    rw (f, g) refl

word_spelled : (w : List ℕ) → word w ≡ true → spelled w ≡ true
word_spelled w e = (and_parts (leb (length w) longest_word) (spelled w) e).1

pub word_all : (w : List ℕ) → word w ≡ true → list_all name_byte w ≡ true
word_all w e = spelled_all w (word_spelled w e)

pub no_word : word [] ≡ true → ⊥
unfolding spelled
no_word e = false≢true (word_spelled [] e)

no_slash : (b : ℕ) → name_byte b ≡ true → eqb b 47 ≡ false
unfolding name_byte kind
no_slash b e = ne_eqb b 47 (λ q. let P : ℕ → Type 0 = λ n. continues_word (kind n) ≡ true in false≢true (subst P q e))

module _ (b : ℕ) (bs : List ℕ) (e : word (b ∷ bs) ≡ true) where
  first_byte : eqb b 47 ≡ false
  first_byte = no_slash b (all_get_d name_byte (b ∷ bs) 0 (word_all (b ∷ bs) e) (omega arith))

  last_byte : eqb (get_or (b ∷ bs) (length bs) 0) 47 ≡ false
  last_byte = no_slash _ (all_get_d name_byte (b ∷ bs) (length bs) (word_all (b ∷ bs) e) (omega arith))

pub closing_tag : (w : List ℕ) → word w ≡ true → tag_of (47 ∷ w) ≡ closes w
unfolding tag_of
closing_tag w e = rw e refl

named_is : (f : List ℕ → Tag) (w : List ℕ) → word w ≡ true → named f w ≡ f w
named_is f w e = rw e refl

pub opening_tag : (w : List ℕ) → word w ≡ true → tag_of w ≡ opens w
unfolding tag_of
opening_tag [] e = absurd (no_word e)
opening_tag (b ∷ bs) e = rw (first_byte b bs e, last_byte b bs e) (named_is opens (b ∷ bs) e)

pub alone_tag : (w : List ℕ) → word w ≡ true → tag_of (w ++ 47 ∷ []) ≡ whole w
unfolding tag_of
alone_tag [] e = absurd (no_word e)
alone_tag (b ∷ bs) e =
    let n : length (b ∷ bs) ≡ length (bs ++ 47 ∷ []) = omega (arith, length_push bs 47) in
    rw (first_byte b bs e, get_or_at (b ∷ bs) 47 [] 0 _ n, take_at (b ∷ bs) (47 ∷ []) _ n) (named_is whole (b ∷ bs) e)

pub same_refl : (w : List ℕ) → same w w ≡ true
same_refl [] = refl
same_refl (x ∷ xs) = rw (eq-eqb x x refl, same_refl xs) refl

-- one item
free_is : (h : Held) (o : Option Shape) → Free h → free h o ≡ o
free_is blanks o f = refl
free_is elements o f = refl
free_is (value v) o f = absurd f

module _ (p n : ℕ) (up : List Open) (h : Held) (w : List ℕ) (k : word w ≡ true) where
  pub open_move : Free h → move p (shape n up h) (opening w) ≡ some (shape (n + 1) (opened w p n ∷ up) blanks)
  open_move f = ap (move_tag p (shape n up h)) (opening_tag w k) ∙ free_is h _ f

  pub alone_move : Free h → move p (shape n up h) (alone w) ≡ some (shape (n + 1) up elements)
  alone_move f = ap (move_tag p (shape n up h)) (alone_tag w k) ∙ free_is h _ f

  pub close_move : (q m : ℕ) → move p (shape n (opened w q m ∷ up) h) (closing w) ≡ some (shape n up elements)
  close_move q m = ap (move_tag p (shape n (opened w q m ∷ up) h)) (closing_tag w k) ∙ ap (λ b. cond b (some (shape n up elements)) none) (same_refl w)

pub runs-∷ : (p : ℕ) (s s' : Shape) (i : Item) (is : List Item) → move p s i ≡ some s' → runs p s (i ∷ is) ≡ runs (p + length (bytes i)) s' is
runs-∷ p s s' i is e = ap (λ o. after o (λ t. runs (p + length (bytes i)) t is)) e

-- a derivation
pub blanks_run : {bs : List Item} → Blanks bs → (p : ℕ) (s : Shape) → runs p s bs ≡ some s
blanks_run no_blank p s = refl
blanks_run (one_more {is} r b k) p s = runs-++ p s is (gap b ∷ []) s (blanks_run r p s)

to_shape : (m n : ℕ) (up : List Open) (h : Held) → m ≡ n → ◌≡◌ {A = Option Shape} (some (shape m up h)) (some (shape n up h))
to_shape m n up h e = ap (λ k. some (shape k up h)) e

mutual
  pub content_run : {p d : ℕ} {is : List Item} {es : List Entry} → Content p d is es → (n : ℕ) (up : List Open) (h : Held) → Free h →
      (h' : Held) × Free h' × (runs p (shape n up h) is ≡ some (shape (n + length es) up h'))
  content_run nothing n up h f = (h, f, to_shape n (n + 0) up h (omega arith))
  content_run (blank {p} {d} {is} {es} c b k) n up h f =
      let r = content_run c n up h f in
      (r.0, r.1, runs-++ p (shape n up h) is (gap b ∷ []) _ r.2)
  content_run (element {p} {d} {is} {es} {js} {fs} c e) n up h f =
      let r = content_run c n up h f in (
        elements,
        tt,
        runs-++ p (shape n up h) is js _ r.2 ∙ (element_run e (n + length es) up r.0 r.1
            ∙ to_shape ((n + length es) + length fs) (n + length (es ++ fs)) up elements (omega (arith, length-append es fs))),
      )

  pub element_run : {p d : ℕ} {js : List Item} {fs : List Entry} → Element p d js fs → (n : ℕ) (up : List Open) (h : Held) → Free h →
      runs p (shape n up h) js ≡ some (shape (n + length fs) up elements)
  element_run (hollow {p} w k) n up h f = runs-∷ p _ _ (alone w) [] (alone_move p n up h w k f)
  element_run (around {p} {d} {is} {es} w k c) n up h f =
      let q : ℕ = p + length (bytes (opening w)) in
      let o : Open = opened w p n in
      let r = content_run c (n + 1) (o ∷ up) blanks tt in
      runs-∷ p (shape n up h) (shape (n + 1) (o ∷ up) blanks) (opening w) (is ++ closing w ∷ []) (open_move p n up h w k f)
      ∙ (runs-++ q (shape (n + 1) (o ∷ up) blanks) is (closing w ∷ []) _ r.2
      ∙ (runs-∷ (q + size is) (shape (n + 1 + length es) (o ∷ up) r.0) (shape (n + 1 + length es) up elements) (closing w) [] (close_move (q + size is) (n + 1 + length es) up r.0 w k p n)
      ∙ to_shape (n + 1 + length es) _ up elements (omega arith)))
  element_run (holding {p} {d} {bs} {cs} w k B ds v e C) n up h f =
      let q : ℕ = p + length (bytes (opening w)) in
      let o : Open = opened w p n in
      let s : Shape = shape (n + 1) (o ∷ up) blanks in
      let s' : Shape = shape (n + 1) (o ∷ up) (value v) in
      runs-∷ p (shape n up h) s (opening w) (bs ++ num ds ∷ (cs ++ closing w ∷ [])) (open_move p n up h w k f)
      ∙ (runs-++ q s bs (num ds ∷ (cs ++ closing w ∷ [])) s (blanks_run B q s)
      ∙ (runs-∷ (q + size bs) s s' (num ds) (cs ++ closing w ∷ []) (ap (move_num s blanks) ((number_rule ds v).1 e))
      ∙ (runs-++ (q + size bs + length ds) s' cs (closing w ∷ []) s' (blanks_run C _ s')
      ∙ (runs-∷ (q + size bs + length ds + size cs) s' (shape (n + 1) up elements) (closing w) [] (close_move (q + size bs + length ds + size cs) (n + 1) up (value v) w k p n)))))
