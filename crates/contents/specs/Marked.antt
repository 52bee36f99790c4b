-- What marking an expression answers.
use Rattle.std.specs.Prelude.{◌≡◌, ℕ, ◌+◌, ◌<◌, ◌≤◌, Ok, Err, Result}
use Rattle.contents.specs.Marking.{mark, places, most_occurrences}
use Rattle.contents.specs.Expressions.{content}
use Rattle.contents.specs.declared.expression.Expression.{Expression}
use Rattle.contents.specs.declared.marking.Unmarked.{Unmarked}
use Rattle.contents.specs.declared.marking.Unmarked.TheVariants.{TooMany, NoMemory}

-- The marked content, exactly where its numbers lie below the limit; else that there are too many. Memory may be wanting.
abbrev pub Marks : {V : Type 0} → Expression V → ℕ → Result (Expression ℕ) Unmarked → Type 0
Marks e base (Ok m) = (content m ≡ mark base (content e)) × (base + places (content e) ≤ most_occurrences)
Marks e base (Err TooMany) = most_occurrences < base + places (content e)
Marks e base (Err NoMemory) = Unit {0}

-- the same with the number after the last
abbrev pub Numbers : {V : Type 0} → Expression V → ℕ → Result (Expression ℕ) Unmarked → ℕ → Type 0
Numbers e base (Ok m) next = (content m ≡ mark base (content e)) × (next ≡ base + places (content e)) × (next ≤ most_occurrences)
Numbers e base (Err TooMany) next = most_occurrences < base + places (content e)
Numbers e base (Err NoMemory) next = Unit {0}
