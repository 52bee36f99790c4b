-- What `lay` answers to a text and a list, and what the record is afterwards.
use Rattle.std.specs.Prelude.{◌≡◌, ℕ, ◌⊎◌, List, [], ◌∷◌, length, take, Some, None, Ok, Err, Option, Result, ◌≢◌}
use Rattle.refusals.specs.declared.Refusal.{Refusal}
use Rattle.refusals.specs.declared.Refusal.TheVariants as refusal
use Rattle.refusals.specs.Refusals.{number, places}
use Rattle.record_text.specs.declared.entry.Entry.{Entry}
use Rattle.record_text.specs.declared.text.TextRecord.{TextRecord}
use Rattle.record_text.specs.Reading.{Misfit, Unclosed, Limit}
use Rattle.record_text.specs.Opening.{Reads}

-- the text and the entries that a record holds
abbrev pub text_of : TextRecord → List ℕ
text_of x = x.text.now

abbrev pub entries_of : TextRecord → List Entry
entries_of x = x.nodes.now

-- every record holds the entries that the grammar derives
abbrev pub RecordsRead : Type 0
RecordsRead = (x : TextRecord) → Reads (text_of x) (entries_of x)

-- the list begins with what `open` writes for the text, or with something else
abbrev pub Begins : List ℕ → List Entry → Type 0
Begins t l = (es : List Entry) × Reads t es × (take (length es) l ≡ es)

abbrev pub Differs : List ℕ → List Entry → Type 0
Differs t l = (es : List Entry) × Reads t es × (take (length es) l ≢ es)

-- when the refusal of each number comes, for a text t and a list l, and which places it names
pub data Unlaid (t : List ℕ) (l : List Entry) : ℕ → List ℕ → Type 0 where
  misfits : (p : ℕ) → Misfit t p ⊎ Unclosed t p → Unlaid t l 3 (p ∷ [])
  limits : (p : ℕ) → Limit t p → Unlaid t l 4 (p ∷ [])
  differs : Differs t l → Unlaid t l 7 []

-- the answer r to the text t and the list l, where the record is x before and y afterwards
abbrev pub Laid : List ℕ → List Entry → Result (Unit {0}) Refusal → TextRecord → TextRecord → Type 0
Laid t l (Ok u) x y = (es : List Entry) × Reads t es × (take (length es) l ≡ es) × (text_of y ≡ t) × (entries_of y ≡ es)
Laid t l (Err e) x y = Unlaid t l (number e) (places e) × (y ≡ x)

abbrev pub refusal_of : {A : Type 0} → Result A Refusal → Option Refusal
refusal_of (Ok a) = None
refusal_of (Err e) = Some e

-- each answer comes whenever its condition holds, so exactly then
abbrev pub Settled : List ℕ → List Entry → Option Refusal → Type 0
Settled t l o =
    (Begins t l → o ≡ None)
    × ((p : ℕ) → Misfit t p ⊎ Unclosed t p → o ≡ Some (refusal.Misfit p))
    × ((p : ℕ) → Limit t p → o ≡ Some (refusal.Limit p))
    × (Differs t l → o ≡ Some refusal.List)
