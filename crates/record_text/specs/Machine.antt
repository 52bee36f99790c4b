-- A reader of items: the open elements, the innermost first, and what that one holds so far. It knows no limits.
use Rattle.std.specs.Prelude.{ℕ, ◌+◌, Bool, true, false, cond, ◌&&◌, List, [], ◌∷◌, ◌++◌, length, take, ℤ, Some, None, Option as Maybe, ◌==◌, slice_index}
use Rattle.std.proofs.Math.Option.{Option, some, none}
use Rattle.lexical.specs.Words.{word}
use Rattle.lexical.specs.Numbers.{number}
use Rattle.record_text.specs.Grammar.{Item, gap, tag, num, stray, lone, bytes}
use Rattle.record_text.specs.Items.{space, less, greater, figure, plain, role}

-- an opening tag whose closing tag is to come: its name, its place and its node's number
pub record Open : Type 0 where
  pub name : List ℕ
  pub place : ℕ
  pub node : ℕ

-- what an element holds: blanks only, elements, or a number (the top holds elements)
pub data Held : Type 0 where
  blanks : Held
  elements : Held
  value : ℤ → Held

pub record Shape : Type 0 where
  pub nodes : ℕ
  pub up : List Open
  pub held : Held

abbrev pub shape : ℕ → List Open → Held → Shape
shape n up h = record { nodes = n; up = up; held = h }

abbrev pub opened : List ℕ → ℕ → ℕ → Open
opened w p n = record { name = w; place = p; node = n }

-- what a tag is, by what stands between its `<` and its `>`
pub data Tag : Type 0 where
  opens : List ℕ → Tag
  closes : List ℕ → Tag
  whole : List ℕ → Tag
  bad : Tag

abbrev pub named : (List ℕ → Tag) → List ℕ → Tag
named f w = cond (word w) (f w) bad

unfoldable pub tag_of : List ℕ → Tag
tag_of [] = bad
tag_of (b ∷ bs) =
    cond (b == 47) (named closes bs)
    (cond (slice_index (b ∷ bs) (length bs) == 47) (named whole (take (length bs) (b ∷ bs))) (named opens (b ∷ bs)))

abbrev pub same : List ℕ → List ℕ → Bool
same [] [] = true
same [] (y ∷ ys) = false
same (x ∷ xs) [] = false
same (x ∷ xs) (y ∷ ys) = x == y && same xs ys

-- a closing tag ends the innermost element, whose name it has
abbrev pub close : List ℕ → ℕ → List Open → Option Shape
close w n [] = none
close w n (o ∷ up) = cond (same w o.name) (some (shape n up elements)) none

-- an element may begin where no number stands
abbrev pub free : Held → Option Shape → Option Shape
free blanks s = s
free elements s = s
free (value v) s = none

abbrev pub move_tag : ℕ → Shape → Tag → Option Shape
move_tag p s (opens w) = free s.held (some (shape (s.nodes + 1) (opened w p s.nodes ∷ s.up) blanks))
move_tag p s (closes w) = close w s.nodes s.up
move_tag p s (whole w) = free s.held (some (shape (s.nodes + 1) s.up elements))
move_tag p s bad = none

abbrev pub valued : Shape → Maybe ℤ → Option Shape
valued s None = none
valued s (Some v) = some (shape s.nodes s.up (value v))

abbrev pub move_num : Shape → Held → Maybe ℤ → Option Shape
move_num s blanks v = valued s v
move_num s elements v = none
move_num s (value x) v = none

-- one item, at byte p: the reader goes on, or the item does not fit
abbrev pub move : ℕ → Shape → Item → Option Shape
move p s (gap b) = some s
move p s (tag bs) = move_tag p s (tag_of bs)
move p s (num ds) = move_num s s.held (number ds)
move p s (stray b) = none
move p s (lone bs) = none

abbrev pub after : Option Shape → (Shape → Option Shape) → Option Shape
after none f = none
after (some s) f = f s

abbrev pub runs : ℕ → Shape → List Item → Option Shape
runs p s [] = some s
runs p s (i ∷ is) = after (move p s i) (λ s'. runs (p + length (bytes i)) s' is)

-- The cutting, byte by byte: inside which item it stands, with the item so far.
pub data Phase : Type 0 where
  idle : Phase
  in_tag : List ℕ → Phase
  in_num : List ℕ → Phase

abbrev pub lex : Phase → List ℕ → List Item
lex idle [] = []
lex (in_tag bs) [] = lone bs ∷ []
lex (in_num ds) [] = num ds ∷ []
lex idle (b ∷ t) =
    elim (role b) [ space ↦ gap b ∷ lex idle t | less ↦ lex (in_tag []) t | greater ↦ stray b ∷ lex idle t | figure ↦ lex (in_num (b ∷ [])) t | plain ↦ stray b ∷ lex idle t ]
lex (in_tag bs) (b ∷ t) =
    elim (role b) [ space ↦ lex (in_tag (bs ++ b ∷ [])) t | less ↦ lex (in_tag (bs ++ b ∷ [])) t | greater ↦ tag bs ∷ lex idle t | figure ↦ lex (in_tag (bs ++ b ∷ [])) t | plain ↦ lex (in_tag (bs ++ b ∷ [])) t ]
lex (in_num ds) (b ∷ t) =
    elim (role b) [ space ↦ num ds ∷ (gap b ∷ lex idle t) | less ↦ num ds ∷ lex (in_tag []) t | greater ↦ num ds ∷ (stray b ∷ lex idle t) | figure ↦ lex (in_num (ds ++ b ∷ [])) t | plain ↦ num ds ∷ (stray b ∷ lex idle t) ]

abbrev pub items : List ℕ → List Item
items t = lex idle t
