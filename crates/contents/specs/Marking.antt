-- Marking: each place of a variable gets a number of its own, from left to right. Assumes nothing.
use Rattle.std.specs.Prelude.{◌≡◌, ℕ, zero, suc, ◌+◌, ◌⊎◌, List, [], ◌∷◌}
use Rattle.contents.specs.Contents.{Content, empty, item, seq, alt, star, plus, opt, items}

-- the most occurrences that a form has; their numbers lie below it
abbrev pub most_occurrences : ℕ
most_occurrences = 256

-- how many places of items a content has
abbrev pub places : {V : Type 0} → Content V → ℕ
places empty = 0
places (item x) = 1
places (seq a b) = places a + places b
places (alt a b) = places a + places b
places (star a) = places a
places (plus a) = places a
places (opt a) = places a

-- the marked content, whose places are numbered from base on
abbrev pub mark : {V : Type 0} → ℕ → Content V → Content ℕ
mark base empty = empty
mark base (item x) = item base
mark base (seq a b) = seq (mark base a) (mark (base + places a) b)
mark base (alt a b) = alt (mark base a) (mark (base + places a) b)
mark base (star a) = star (mark base a)
mark base (plus a) = plus (mark base a)
mark base (opt a) = opt (mark base a)

-- base, base + 1, .., n of them
abbrev pub range : ℕ → ℕ → List ℕ
range base zero = []
range base (suc n) = base ∷ range (suc base) n

abbrev pub Among : ℕ → List ℕ → Type 0
Among p [] = ⊥
Among p (x ∷ xs) = (p ≡ x) ⊎ Among p xs

-- each number stands once
abbrev pub Once : List ℕ → Type 0
Once [] = Unit {0}
Once (x ∷ xs) = (Among x xs → ⊥) × Once xs

abbrev pub Linear : Content ℕ → Type 0
Linear c = Once (items c)
