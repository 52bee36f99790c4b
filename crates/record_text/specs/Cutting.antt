-- The item that a text begins with.
use Rattle.std.specs.Prelude.{◌≡◌, ℕ, Bool, not, List, ◌+◌, ◌++◌, length, drop, slice_index}
use Rattle.lexical.specs.Kinds.{kind}
use Rattle.lexical.specs.Numbers.{figure_kind}
use Rattle.record_text.specs.declared.items.Item.{Item as Told}
use Rattle.record_text.specs.declared.items.Item.TheVariants as told
use Rattle.record_text.specs.Grammar.{Item, gap, tag, num, stray, lone, bytes}
use Rattle.record_text.specs.Items.{Ends}
use Rattle.record_text.specs.Machine.{items}

-- what the code tells of the first item of the text t
abbrev pub item_of : List ℕ → Told → Item
item_of t told.Gap = gap (slice_index t 0)
item_of t (told.Tag w) = tag w.now
item_of t (told.Number w) = num w.now
item_of t told.Stray = stray (slice_index t 0)
item_of t told.Lone = lone (drop 1 t)

-- the text t begins with the item, and r is left
abbrev pub First : List ℕ → Told → List ℕ → Type 0
First t i r = (bytes (item_of t i) ++ r ≡ t) × Ends (item_of t i) (items r)

abbrev pub no_figure : ℕ → Bool
no_figure b = not (figure_kind (kind b))

-- a tag begins at p and ends before q
abbrev pub TagSpans : ℕ → Told → ℕ → Type 0
TagSpans p told.Gap q = Unit {0}
TagSpans p (told.Tag w) q = p + length (bytes (tag w.now)) ≡ q
TagSpans p (told.Number w) q = Unit {0}
TagSpans p told.Stray q = Unit {0}
TagSpans p told.Lone q = Unit {0}
