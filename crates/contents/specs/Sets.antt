-- The sets of Berry and Sethi: what they mean, and how they are computed. Assumes nothing.
use Rattle.std.specs.Prelude.{◌≡◌, ℕ, Bool, true, false, ◌&&◌, ◌||◌, List, [], ◌∷◌, ◌++◌, ◌==◌}
use Rattle.contents.specs.Contents.{Content, empty, item, seq, alt, star, plus, opt, Word}

-- Of a content over occurrences: whether some word is empty, begins with p, ends with p, has q right after p.
abbrev pub Nullable : Content ℕ → Type 0
Nullable c = Word c []

abbrev pub Opens : Content ℕ → ℕ → Type 0
Opens c p = (w : List ℕ) × Word c (p ∷ w)

abbrev pub Closes : Content ℕ → ℕ → Type 0
Closes c p = (w : List ℕ) × Word c (w ++ p ∷ [])

abbrev pub Follows : Content ℕ → ℕ → ℕ → Type 0
Follows c p q = (u : List ℕ) × (v : List ℕ) × Word c (u ++ p ∷ q ∷ v)

-- a test tells whether something holds
abbrev pub Tells : Bool → Type 0 → Type 0
Tells true P = P
Tells false P = P → ⊥

-- The same as tests, computed from a content's parts.
abbrev pub nullable : Content ℕ → Bool
nullable empty = true
nullable (item p) = false
nullable (seq a b) = nullable a && nullable b
nullable (alt a b) = nullable a || nullable b
nullable (star a) = true
nullable (plus a) = nullable a
nullable (opt a) = true

abbrev pub opens : Content ℕ → ℕ → Bool
opens empty p = false
opens (item q) p = q == p
opens (seq a b) p = opens a p || (nullable a && opens b p)
opens (alt a b) p = opens a p || opens b p
opens (star a) p = opens a p
opens (plus a) p = opens a p
opens (opt a) p = opens a p

abbrev pub closes : Content ℕ → ℕ → Bool
closes empty p = false
closes (item q) p = q == p
closes (seq a b) p = closes b p || (nullable b && closes a p)
closes (alt a b) p = closes a p || closes b p
closes (star a) p = closes a p
closes (plus a) p = closes a p
closes (opt a) p = closes a p

abbrev pub follows : Content ℕ → ℕ → ℕ → Bool
follows empty p q = false
follows (item r) p q = false
follows (seq a b) p q = follows a p q || (follows b p q || (closes a p && opens b q))
follows (alt a b) p q = follows a p q || follows b p q
follows (star a) p q = follows a p q || (closes a p && opens a q)
follows (plus a) p q = follows a p q || (closes a p && opens a q)
follows (opt a) p q = follows a p q

-- the walk of a word through the sets: after p the rest w
abbrev pub Run : Content ℕ → ℕ → List ℕ → Type 0
Run c p [] = closes c p ≡ true
Run c p (q ∷ w) = (follows c p q ≡ true) × Run c q w

-- the first of w opens, each neighbouring pair follows, the last closes; the empty word where the content is nullable
abbrev pub Local : Content ℕ → List ℕ → Type 0
Local c [] = nullable c ≡ true
Local c (p ∷ w) = (opens c p ≡ true) × Run c p w
