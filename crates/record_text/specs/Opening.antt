-- What `open` answers to a text and a lent list, and what the list is afterwards.
use Rattle.std.specs.Prelude.{◌≡◌, ℕ, ◌<◌, ◌≤◌, ◌⊎◌, List, [], ◌∷◌, ◌++◌, length, drop, Ok, Err, Result}
use Rattle.refusals.specs.declared.Refusal.{Refusal}
use Rattle.refusals.specs.Refusals.{number, places}
use Rattle.record_text.specs.declared.entry.Entry.{Entry}
use Rattle.record_text.specs.Grammar.{Item, Content}
use Rattle.record_text.specs.Items.{ItemsOf}
use Rattle.record_text.specs.Reading.{Within, Misfit, Unclosed, Limit}

-- the grammar derives the text, with these entries, within the limits
abbrev pub Reads : List ℕ → List Entry → Type 0
Reads t es = (is : List Item) × ItemsOf t is × Content 0 0 is es × Within is

-- when the refusal of each number comes, for a text t and a list of m entries, and which places it names
pub data Refuses (t : List ℕ) (m : ℕ) : ℕ → List ℕ → Type 0 where
  misfits : (p : ℕ) → Misfit t p ⊎ Unclosed t p → Refuses t m 3 (p ∷ [])
  limits : (p : ℕ) → Limit t p → Refuses t m 4 (p ∷ [])
  short : (es : List Entry) → Reads t es → m < length es → Refuses t m 6 []

-- the answer r to the text t and the list l, which is l' afterwards
abbrev pub Opened : List ℕ → List Entry → Result ℕ Refusal → List Entry → Type 0
Opened t l (Ok n) l' = (es : List Entry) × Reads t es × (length es ≡ n) × (n ≤ length l) × (l' ≡ es ++ drop n l)
Opened t l (Err e) l' = Refuses t (length l) (number e) (places e) × (l' ≡ l)
