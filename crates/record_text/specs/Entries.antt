-- The entry of a node that begins at byte p and ends before byte q, with a name of n bytes, at depth d: of any, of a branch, of a leaf.
use Rattle.std.specs.Prelude.{ℕ, ℤ, Some, None, Option}
use Rattle.record_text.specs.declared.entry.Entry.{Entry}

abbrev pub entry : ℕ → ℕ → ℕ → ℕ → Option ℤ → Entry
entry p q n d v = record { start = p; end = q; name_len = n; depth = d; value = v }

abbrev pub branch : ℕ → ℕ → ℕ → ℕ → Entry
branch p q n d = entry p q n d None

abbrev pub leaf : ℕ → ℕ → ℕ → ℕ → ℤ → Entry
leaf p q n d v = entry p q n d (Some v)

-- what is told of a node that is not there
abbrev pub no_entry : Entry
no_entry = branch 0 0 0 0
