-- The part of a text that a node takes up.
use Rattle.std.specs.Prelude.{ℕ, cond, List, [], length, nat_lt, slice_index_or, slice_range}
use Rattle.record_text.specs.declared.entry.Entry.{Entry}
use Rattle.record_text.specs.Entries.{no_entry}

abbrev pub span : List ℕ → ℕ → ℕ → List ℕ
span t a z = slice_range t a z

-- of node k; for a node that is not there, nothing at the end of the text
abbrev pub part_of : List ℕ → List Entry → ℕ → List ℕ
part_of t es k = cond (nat_lt k (length es)) (span t (slice_index_or es k no_entry).start (slice_index_or es k no_entry).end) []

abbrev pub place_of : List ℕ → List Entry → ℕ → ℕ
place_of t es k = cond (nat_lt k (length es)) (slice_index_or es k no_entry).start (length t)
