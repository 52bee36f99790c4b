-- A list compared with the nodes that a pass completes.
use Rattle.std.specs.Prelude.{◌≡◌, ℕ, ◌<◌, List, [], ◌∷◌, length, slice_index_or}
use Rattle.record_text.specs.declared.entry.Entry.{Entry}
use Rattle.record_text.specs.Entries.{no_entry}
use Rattle.record_text.specs.Pass.{Done}

-- entry k of the list is e
abbrev pub Has : List Entry → ℕ → Entry → Type 0
Has l k e = (k < length l) × (slice_index_or l k no_entry ≡ e)

-- the list has the entry of each
abbrev pub Agrees : List Done → List Entry → Type 0
Agrees [] l = Unit {0}
Agrees (x ∷ xs) l = Has l x.0 x.1 × Agrees xs l
