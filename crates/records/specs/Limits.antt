-- The limits of a record.
use Rattle.std.specs.Prelude.{ℕ}

abbrev pub most_nodes : ℕ
most_nodes = 4096

-- depths 0 to 31: as many nodes may lie in one another
abbrev pub most_levels : ℕ
most_levels = 32

-- the greatest value in hundredths, and without its sign the least one
abbrev pub greatest_value : ℕ
greatest_value = 10000000
