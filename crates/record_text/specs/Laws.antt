-- The laws of record text, each held by the contract of a function of its own.
use Rattle.std.specs.Prelude.{◌≡◌, ℕ, List, ◌++◌, Result}
use Rattle.record_text.specs.declared.entry.Entry.{Entry}
use Rattle.record_text.specs.Grammar.{Item, WellFormed, Fits}
use Rattle.record_text.specs.Items.{ItemsOf}
use Rattle.record_text.specs.Reading.{Outcome, Answer}
use Rattle.record_text.specs.Opening.{Reads, Opened}
use Rattle.refusals.specs.declared.Refusal.{Refusal}
use Rattle.record_text.specs.Texts.{text_nodes}
use Rattle.records.specs.Nodes.{Shape}

-- every text has one answer, and no other
abbrev pub OneAnswer : Type 0
OneAnswer = (t : List ℕ) → (o : Outcome) × Answer t o × ((o' : Outcome) → Answer t o' → o ≡ o')

-- a well-formed text has one list of entries
abbrev pub OneList : Type 0
OneList = (t : List ℕ) (es fs : List Entry) → WellFormed t es → WellFormed t fs → es ≡ fs

-- a text is cut into items in one way
abbrev pub OneCut : Type 0
OneCut = (t : List ℕ) → (is : List Item) × ItemsOf t is × ((js : List Item) → ItemsOf t js → is ≡ js)

-- to a text and a list there is one answer, and one list afterwards
abbrev pub OneOpening : Type 0
OneOpening = (t : List ℕ) (l : List Entry) (r r' : Result ℕ Refusal) (l' l'' : List Entry) → Opened t l r l' → Opened t l r' l'' → (r ≡ r') × (l' ≡ l'')

-- items fit exactly if the items of some well-formed text begin with them
abbrev pub BeginsText : List Item → Type 0
BeginsText is = (t : List ℕ) × (es : List Entry) × (more : List Item) × WellFormed t es × ItemsOf t (is ++ more)

abbrev pub FitsInText : Type 0
FitsInText = (is : List Item) → (Fits is → BeginsText is) × (BeginsText is → Fits is)

-- the nodes of an accepted text have the shape of a record
abbrev pub KeepsShape : Type 0
KeepsShape = (t : List ℕ) (es : List Entry) → Reads t es → Shape (text_nodes t es)
