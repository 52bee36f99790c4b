-- How a text is cut into items.
use Rattle.std.specs.Prelude.{◌≡◌, ℕ, List, [], ◌∷◌, ◌≢◌}
use Rattle.lexical.specs.declared.kinds.Kind.{Kind}
use Rattle.lexical.specs.declared.kinds.Kind.TheVariants.{Letter, Digit, Hyphen, Point, Less, Greater, Slash, Blank, Other}
use Rattle.lexical.specs.Kinds.{kind}
use Rattle.record_text.specs.Grammar.{Item, gap, tag, num, stray, lone, text}

-- what a byte is to the cutting: a blank, `<`, `>`, a byte of numbers, or another
pub data Role : Type 0 where
  space : Role
  less : Role
  greater : Role
  figure : Role
  plain : Role

abbrev pub of_kind : Kind → Role
of_kind Letter = plain
of_kind Digit = figure
of_kind Hyphen = figure
of_kind Point = figure
of_kind Less = less
of_kind Greater = greater
of_kind Slash = plain
of_kind Blank = space
of_kind Other = plain

unfoldable pub role : ℕ → Role
role b = of_kind (kind b)

abbrev pub Figures : List ℕ → Type 0
Figures [] = Unit {0}
Figures (b ∷ bs) = (role b ≡ figure) × Figures bs

abbrev pub NoGreater : List ℕ → Type 0
NoGreater [] = Unit {0}
NoGreater (b ∷ bs) = (role b ≢ greater) × NoGreater bs

abbrev pub NotEmpty : List ℕ → Type 0
NotEmpty [] = ⊥
NotEmpty (b ∷ bs) = Unit {0}

-- no further byte of a number follows
abbrev pub Quits : List ℕ → Type 0
Quits [] = Unit {0}
Quits (b ∷ bs) = role b ≡ figure → ⊥

-- a byte that begins no other item
abbrev pub Stray : Role → Type 0
Stray space = ⊥
Stray less = ⊥
Stray greater = Unit {0}
Stray figure = ⊥
Stray plain = Unit {0}

-- `Ends i is`: i is cut rightly before the items `is`: a tag ends at its first `>`, a number item is as long as it can be, and a `<`
-- without `>` takes all that is left
abbrev pub Ends : Item → List Item → Type 0
Ends (gap b) is = role b ≡ space
Ends (tag bs) is = NoGreater bs
Ends (num ds) is = NotEmpty ds × Figures ds × Quits (text is)
Ends (stray b) is = Stray (role b)
Ends (lone bs) is = NoGreater bs × (is ≡ [])

abbrev pub Cut : List Item → Type 0
Cut [] = Unit {0}
Cut (i ∷ is) = Ends i is × Cut is

-- the items of a text
abbrev pub ItemsOf : List ℕ → List Item → Type 0
ItemsOf t is = (text is ≡ t) × Cut is
