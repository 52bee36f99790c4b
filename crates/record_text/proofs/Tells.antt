-- The entries of an accepted text tell proper nodes: names that are words, and values in range.
use Rattle.std.proofs.Common.{◌≡◌, ℕ, ◌+◌, ◌≤◌, true, false, List, [], ◌∷◌, ◌++◌, length, take, drop, ℤ, pos, negsuc, nat_abs, ◌≤ℤ◌, Some, sym, refl, ap, ◌∙◌, append_assoc, append-nil, arith, length-append}
use lib.ListN.{length-map}
use Rattle.std.proofs.lemmas.List.{take_at, drop_at}
use Rattle.std.proofs.lemmas.Int.{ints}
use Rattle.std.proofs.lemmas.Bool.{le-leb}
use Rattle.lexical.specs.Kinds.{kind}
use Rattle.lexical.specs.Words.{word}
use Rattle.lexical.specs.Numbers.{Number}
use Rattle.lexical.proofs.NumberFacts.{small_number}
use Rattle.records.specs.Nodes.{ranged, next_depth, shaped}
use Rattle.records.specs.Shapes.{shaped_from, proper_from}
use Rattle.record_text.specs.declared.entry.Entry.{Entry}
use Rattle.record_text.specs.Grammar.{Item, gap, num, bytes, text, size, opening, closing, Content, nothing, blank, element, Element, hollow, around, holding}
use Rattle.record_text.specs.Laws.{KeepsShape}
use Rattle.record_text.specs.Texts.{text_node, text_nodes}
use Rattle.record_text.specs.Opening.{Reads}
use Rattle.record_text.proofs.Complete.{text-++, name_byte}
use Rattle.record_text.proofs.Shapes.{From, Shallow, depths}

-- what stands behind the first byte of a node: its name, and then a byte that belongs to no word
abbrev pub NameEnds : List ℕ → Entry → Type 0
NameEnds t e = (x : ℕ) × (C : List ℕ) × (name_byte x ≡ false) × (drop (e.start + 1) t ≡ (text_node t e).name ++ x ∷ C)

-- each entry tells a word, which ends there, and a value in range
abbrev pub Tells : List ℕ → List Entry → Type 0
Tells t [] = Unit {0}
Tells t (e ∷ es) = ((word (text_node t e).name ≡ true) × NameEnds t e) × (ranged e.value ≡ true) × Tells t es

tells-++ : (t : List ℕ) (es fs : List Entry) → Tells t es → Tells t fs → Tells t (es ++ fs)
tells-++ t [] fs a b = b
tells-++ t (e ∷ es) fs a b = (a.0, a.1, tells-++ t es fs a.2 b)

-- what stands behind the first byte of what stands at p
behind : (A : List ℕ) (x : ℕ) (C : List ℕ) (p : ℕ) → length A ≡ p → drop (p + 1) (A ++ x ∷ C) ≡ C
behind A x C p a =
    let e : (A ++ x ∷ []) ++ C ≡ A ++ x ∷ C = append_assoc A (x ∷ []) C in
    let n : length (A ++ x ∷ []) ≡ p + 1 = omega (arith, length-append A (x ∷ [])) in
    ap (drop (p + 1)) (sym e) ∙ drop_at (A ++ x ∷ []) C (p + 1) n

-- the bytes `/` and `>` belong to no word
slash_ends : name_byte 47 ≡ false
unfolding name_byte kind
slash_ends = refl

greater_ends : name_byte 62 ≡ false
unfolding name_byte kind
greater_ends = refl

in_range : (v : ℤ) → negsuc 9999999 ≤ℤ v → v ≤ℤ pos 10000000 → nat_abs v ≤ 10000000
in_range (pos n) l h = omega (arith, ints)
in_range (negsuc n) l h = omega (arith, ints)

number_ranged : (ds : List ℕ) (v : ℤ) → Number ds v → ranged (Some v) ≡ true
number_ranged ds v e = let r = small_number ds v e in le-leb (nat_abs v) 10000000 (in_range v r.0 r.1)

-- the text around items is known on both sides
module _ (t : List ℕ) where
  named : (A w : List ℕ) (k : word w ≡ true) (x : ℕ) (C : List ℕ) (p : ℕ) → length A ≡ p → name_byte x ≡ false → t ≡ A ++ 60 ∷ (w ++ x ∷ C) →
      (word (take (length w) (drop (p + 1) t)) ≡ true) × ((y : ℕ) × (D : List ℕ) × (name_byte y ≡ false) × (drop (p + 1) t ≡ take (length w) (drop (p + 1) t) ++ y ∷ D))
  named A w k x C p a n e =
      let d : drop (p + 1) t ≡ w ++ x ∷ C = ap (drop (p + 1)) e ∙ behind A 60 (w ++ x ∷ C) p a in
      let m : take (length w) (drop (p + 1) t) ≡ w = ap (take (length w)) d ∙ take_at w (x ∷ C) (length w) refl in
      (ap word m ∙ k, (x, C, n, d ∙ ap (λ l. l ++ x ∷ C) (sym m)))

  mutual
    content_tells : {p d : ℕ} {is : List Item} {es : List Entry} → Content p d is es → (A B : List ℕ) → length A ≡ p → t ≡ A ++ (text is ++ B) → Tells t es
    content_tells nothing A B a e = tt
    content_tells (blank {is = is} c b k) A B a e =
        content_tells c A (b ∷ B) a (e ∙ ap (λ l. A ++ l) (ap (λ l. l ++ B) (text-++ is (gap b ∷ [])) ∙ append_assoc (text is) (b ∷ []) B))
    content_tells (element {p} {is = is} {es = es} {js = js} {fs = fs} c x) A B a e =
        let q : t ≡ A ++ (text is ++ (text js ++ B)) = e ∙ ap (λ l. A ++ l) (ap (λ l. l ++ B) (text-++ is js) ∙ append_assoc (text is) (text js) B) in
        let n : length (A ++ text is) ≡ p + size is = omega (arith, length-append A (text is)) in
        tells-++ t es fs (content_tells c A (text js ++ B) a q) (element_tells x (A ++ text is) B n (q ∙ sym (append_assoc A (text is) (text js ++ B))))

    element_tells : {p d : ℕ} {is : List Item} {es : List Entry} → Element p d is es → (A B : List ℕ) → length A ≡ p → t ≡ A ++ (text is ++ B) → Tells t es
    element_tells (hollow {p} w k) A B a e = (named A w k 47 (62 ∷ B) p a slash_ends (e ∙ simp append_assoc), refl, tt)
    element_tells (around {p} {is = is} w k c) A B a e =
        let C : List ℕ = text (closing w ∷ []) ++ B in
        let q : t ≡ A ++ 60 ∷ (w ++ 62 ∷ (text is ++ C)) = e ∙ (ap (λ l. A ++ ((bytes (opening w) ++ l) ++ B)) (text-++ is (closing w ∷ [])) ∙ simp append_assoc) in
        let n : length (A ++ bytes (opening w)) ≡ p + length (bytes (opening w)) = omega (arith, length-append A (bytes (opening w))) in
        let r : A ++ 60 ∷ (w ++ 62 ∷ (text is ++ C)) ≡ (A ++ bytes (opening w)) ++ (text is ++ C) = simp append_assoc in
        (named A w k 62 (text is ++ C) p a greater_ends q, refl, content_tells c (A ++ bytes (opening w)) C n (q ∙ r))
    element_tells (holding {p} {bs = bs} {cs = cs} w k P ds v g R) A B a e =
        (named A w k 62 (text (bs ++ num ds ∷ (cs ++ closing w ∷ [])) ++ B) p a greater_ends (e ∙ simp append_assoc), number_ranged ds v g, tt)

  shaped_all : (m : ℕ) (es : List Entry) → From m es → Shallow es → Tells t es → shaped m (text_nodes t es) ≡ true
  shaped_all m [] f s w = refl
  shaped_all m (e ∷ es) f s w =
      shaped_from m (text_node t e) (text_nodes t es) f.0 (proper_from (text_node t e) w.0.0 s.0 w.1) (shaped_all (next_depth e.value e.depth) es f.1 s.1 w.2)

pub tells : (t : List ℕ) (es : List Entry) → Reads t es → Tells t es
tells t es r = let e : t ≡ text r.0 ++ [] = sym r.1.0 ∙ sym (append-nil (text r.0)) in content_tells t r.2 [] [] refl e

pub keeps_shape : KeepsShape
keeps_shape t es r =
    let d = depths t es r in
    let n = length-map es (text_node t) in
    (omega (arith, d.2), shaped_all t 0 es d.0 d.1 (tells t es r))
