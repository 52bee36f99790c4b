-- What the code of a pass answers.
use Rattle.std.specs.Prelude.{◌≡◌, ℕ, ◌≤◌, ◌⊎◌, true, List, length, take, Ok, Err, Result}
use Rattle.std.specs.Borrow.{Bor}
use Rattle.refusals.specs.declared.Refusal.{Refusal}
use Rattle.refusals.specs.declared.Refusal.TheVariants as refusal
use Rattle.refusals.specs.Refusals.{number, places}
use Rattle.records.specs.Limits.{most_nodes}
use Rattle.records.specs.Nodes.{shaped}
use Rattle.record_text.specs.Texts.{text_nodes}
use Rattle.record_text.specs.Laying.{Unlaid}
use Rattle.record_text.specs.Reading.{accepted}
use Rattle.record_text.specs.declared.entry.Entry.{Entry}
use Rattle.record_text.specs.Opening.{Reads, Opened}
use Rattle.record_text.specs.Pass.{accepts, completed, entries, read}
use Rattle.record_text.specs.Turns.{outcome}
use Rattle.record_text.specs.Agree.{Agrees}

abbrev pub Faultless : List ℕ → Type 0
Faultless t = (n : ℕ) × (read t ≡ accepted n)

-- the answer that is known before anything is written
abbrev pub Verdict : List ℕ → List Entry → Result ℕ Refusal → Type 0
Verdict t l (Ok n) = Faultless t × ((l' : List Entry) → l' ≡ entries t l → Opened t l (Ok n) l')
Verdict t l (Err e) = Opened t l (Err e) l

-- an accepted text, and a list that has not the entry of each node
abbrev pub Unlike : List ℕ → List Entry → Type 0
Unlike t l = (n : ℕ) × (outcome (read t) ≡ Ok n) × (n ≤ length l → Agrees (completed t) l → ⊥)

-- how many nodes there are, if the list has the entry of each; an item at fault goes before an entry that differs
abbrev pub Compared : List ℕ → List Entry → Result ℕ Refusal → Type 0
Compared t l (Ok n) = (outcome (read t) ≡ Ok n) × (n ≤ length l) × Agrees (completed t) l
Compared t l (Err e) = (outcome (read t) ≡ Err e) ⊎ ((e ≡ refusal.List) × Unlike t l)

-- by equations, as a record keeps it: so many nodes are accepted, and a pass would write these entries
pub record Tied (t : List ℕ) (es : List Entry) : Type 0 where
  pub fine : accepts (read t) (length es) ≡ true
  pub same : entries t es ≡ es
  pub few : length es ≤ most_nodes
  pub shape : shaped 0 (text_nodes t es) ≡ true

-- the answer of `lay` before the record is set: the front of the list that has the entries
abbrev pub Agreed : List ℕ → List Entry → Result (Bor (List Entry)) Refusal → Type 0
Agreed t l (Ok es) = Tied t es.now × Reads t es.now × (take (length es.now) l ≡ es.now)
Agreed t l (Err e) = Unlaid t l (number e) (places e)
