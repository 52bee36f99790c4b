-- The laws that are shown of contents. Assumes nothing.
use Rattle.std.specs.Prelude.{◌≡◌, ℕ, true, ◌↔◌, List}
use Rattle.contents.specs.Contents.{Content, Word, items}
use Rattle.contents.specs.Sets.{Nullable, Opens, Closes, Follows, nullable, opens, closes, follows, Local}
use Rattle.contents.specs.Marking.{mark, places, range, Linear}

-- no content is dead: each has a word
abbrev pub HasWords : Type 0
HasWords = (c : Content ℕ) → (w : List ℕ) × Word c w

-- the computed sets are the sets of Berry and Sethi
abbrev pub SetsRule : Type 0
SetsRule = (c : Content ℕ) →
    (nullable c ≡ true ↔ Nullable c) × ((p : ℕ) → opens c p ≡ true ↔ Opens c p) × ((p : ℕ) → closes c p ≡ true ↔ Closes c p)
    × ((p q : ℕ) → follows c p q ≡ true ↔ Follows c p q)

-- a linear content's words are those that the sets let through
abbrev pub LocalRule : Type 0
LocalRule = (c : Content ℕ) → Linear c → (w : List ℕ) → Word c w ↔ Local c w

-- over names, which are lists of bytes: marking numbers the places one by one, so that each number stands once
abbrev pub MarkingRule : Type 0
MarkingRule = (e : Content (List ℕ)) (base : ℕ) → (items (mark base e) ≡ range base (places e)) × Linear (mark base e)
