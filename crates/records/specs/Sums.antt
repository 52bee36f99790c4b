-- The sum of the values of all leaves, in hundredths.
use Rattle.std.specs.Prelude.{List, [], ◌∷◌, ℤ, pos, ◌+ℤ◌, Some, None, Option}
use Rattle.records.specs.Nodes.{Node}

-- a branch adds nothing
abbrev pub worth : Option ℤ → ℤ
worth None = pos 0
worth (Some v) = v

abbrev pub total_of : List Node → ℤ
total_of [] = pos 0
total_of (n ∷ ns) = worth n.value +ℤ total_of ns
