-- What the reading of a text answers: its number of nodes, or the place of the first item at fault.
use Rattle.std.specs.Prelude.{◌≡◌, ℕ, ◌+◌, ◌-◌, ◌≤◌, Bool, false, cond, ◌⊎◌, List, [], ◌∷◌, ◌++◌, length, ◌==◌, slice_index}
use Rattle.record_text.specs.declared.entry.Entry.{Entry}
use Rattle.records.specs.Limits.{most_nodes, most_levels}
use Rattle.record_text.specs.Grammar.{Item, gap, tag, num, stray, lone, size, Content, Fits}
use Rattle.record_text.specs.Items.{ItemsOf}

abbrev pub slash_first : List ℕ → Bool
slash_first [] = false
slash_first (b ∷ bs) = b == 47

abbrev pub slash_last : List ℕ → Bool
slash_last [] = false
slash_last (b ∷ bs) = slice_index (b ∷ bs) (length bs) == 47

-- how many elements an item begins, leaves open, and closes: by the slashes of a tag alone, which is right of items that fit, and
-- used only beside `Fits` or `Content`
abbrev pub begun_by : Item → ℕ
begun_by (gap b) = 0
begun_by (tag bs) = cond (slash_first bs) 0 1
begun_by (num ds) = 0
begun_by (stray b) = 0
begun_by (lone bs) = 0

abbrev pub opened_by : Item → ℕ
opened_by (gap b) = 0
opened_by (tag bs) = cond (slash_first bs) 0 (cond (slash_last bs) 0 1)
opened_by (num ds) = 0
opened_by (stray b) = 0
opened_by (lone bs) = 0

abbrev pub closed_by : Item → ℕ
closed_by (gap b) = 0
closed_by (tag bs) = cond (slash_first bs) 1 0
closed_by (num ds) = 0
closed_by (stray b) = 0
closed_by (lone bs) = 0

abbrev pub total : (Item → ℕ) → List Item → ℕ
total f [] = 0
total f (i ∷ is) = f i + total f is

-- after `is`, the item i begins an element that would be one node too many or lie too deep
abbrev pub Over : List Item → Item → Type 0
Over is i = (begun_by i ≡ 1) × ((most_nodes ≤ total begun_by is) ⊎ (most_levels ≤ total opened_by is - total closed_by is))

-- no item begins an element beyond a limit
pub data Within : List Item → Type 0 where
  nothing : Within []
  one_more : {is : List Item} → Within is → (i : Item) → (Over is i → ⊥) → Within (is ++ i ∷ [])

-- all is in order: n nodes
abbrev pub Accepted : List ℕ → ℕ → Type 0
Accepted t n = (is : List Item) × (es : List Entry) × ItemsOf t is × Content 0 0 is es × Within is × (length es ≡ n)

-- the first item at fault, at p, does not fit
abbrev pub Misfit : List ℕ → ℕ → Type 0
Misfit t p = (is : List Item) × (i : Item) × (rest : List Item) × ItemsOf t (is ++ i ∷ rest) × Fits is × Within is × (Fits (is ++ i ∷ []) → ⊥) × (size is ≡ p)

-- no item is at fault, and an element is open at the end, which is p
abbrev pub Unclosed : List ℕ → ℕ → Type 0
Unclosed t p = (is : List Item) × ItemsOf t is × Fits is × Within is × ((es : List Entry) → Content 0 0 is es → ⊥) × (size is ≡ p)

-- the first item at fault, at p, fits and is over
abbrev pub Limit : List ℕ → ℕ → Type 0
Limit t p = (is : List Item) × (i : Item) × (rest : List Item) × ItemsOf t (is ++ i ∷ rest) × Within is × Fits (is ++ i ∷ []) × Over is i × (size is ≡ p)

pub data Outcome : Type 0 where
  accepted : ℕ → Outcome
  misfit : ℕ → Outcome
  limit : ℕ → Outcome

abbrev pub Answer : List ℕ → Outcome → Type 0
Answer t (accepted n) = Accepted t n
Answer t (misfit p) = Misfit t p ⊎ Unclosed t p
Answer t (limit p) = Limit t p
