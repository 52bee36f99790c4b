-- The law of the reports, held by the contract of a function of its own.
use Rattle.std.specs.Prelude.{◌≡◌, ℕ, List}
use Rattle.record_text.specs.declared.entry.Entry.{Entry}
use Rattle.reports.specs.Outlines.{Outlined}

-- every input has one report, and no other, whatever is said of a record
abbrev pub OneReport : Type 0
OneReport = (s : List Entry → List ℕ) (t : List ℕ) → (o : List ℕ) × Outlined s t o × ((o' : List ℕ) → Outlined s t o' → o ≡ o')
