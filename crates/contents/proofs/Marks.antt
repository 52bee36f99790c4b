-- Marking numbers the places from left to right. Assumes nothing.
use Rattle.std.proofs.Common.{◌≡◌, ℕ, zero, suc, ◌+◌, ◌≤◌, List, ◌∷◌, ◌++◌, sym, refl, ap, ◌∙◌, subst, ap₂, inl, inr, add-zero, add-suc, suc-add, zero-add, arith}
use Rattle.contents.specs.Contents.{Content, empty, item, seq, alt, star, plus, opt, items}
use Rattle.contents.specs.Marking.{mark, places, range, Among, Once}
use Rattle.contents.specs.Laws.{MarkingRule}

pub range-++ : (base m n : ℕ) → range base (m + n) ≡ range base m ++ range (base + m) n
range-++ base zero n = ap₂ range (sym (add-zero base)) (zero-add n)
range-++ base (suc m) n =
    ap (range base) (suc-add m n)
    ∙ ap (λ (l : List ℕ). base ∷ l) (range-++ (suc base) m n ∙ ap (λ k. range (suc base) m ++ range k n) (suc-add base m ∙ sym (add-suc base m)))

range_above : (x base n : ℕ) → Among x (range base n) → base ≤ x
range_above x base zero m = elim m [ ]
range_above x base (suc n) m =
    elim m [ inl e ↦ omega (arith, e) | inr k ↦ let h = range_above x (suc base) n k in omega arith ]

pub range_once : (base n : ℕ) → Once (range base n)
range_once base zero = tt
range_once base (suc n) = ((λ m. let h = range_above base (suc base) n m in omega arith), range_once (suc base) n)

-- the places of two parts, one after the other
two : {V : Type 0} (a b : Content V) (base : ℕ) (xs ys : List ℕ) → xs ≡ range base (places a) → ys ≡ range (base + places a) (places b)
    → xs ++ ys ≡ range base (places a + places b)
two a b base xs ys e f = ap₂ (λ u v. u ++ v) e f ∙ sym (range-++ base (places a) (places b))

pub marked_items : {V : Type 0} (e : Content V) (base : ℕ) → items (mark base e) ≡ range base (places e)
marked_items empty base = refl
marked_items (item x) base = refl
marked_items (seq a b) base = two a b base _ _ (marked_items a base) (marked_items b (base + places a))
marked_items (alt a b) base = two a b base _ _ (marked_items a base) (marked_items b (base + places a))
marked_items (star a) base = marked_items a base
marked_items (plus a) base = marked_items a base
marked_items (opt a) base = marked_items a base

pub marking_linear : MarkingRule
marking_linear e base = let m = marked_items e base in (m, subst Once (sym m) (range_once base (places e)))
