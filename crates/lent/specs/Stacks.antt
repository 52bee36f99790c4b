-- A stack over a slice that its caller lends: the entries that it holds, the oldest first, and how many there is room for.
use Rattle.std.specs.Prelude.{ℕ, ◌-◌, List, length, take}
use Rattle.lent.specs.declared.stack.Stack.{Stack}

module _ {T : Type 0} where
  -- the slice, as it is now
  abbrev pub lent : Stack T → List T
  lent s = s.slots.now

  abbrev pub held : Stack T → List T
  held s = take s.count (lent s)

  -- the entries but for the newest: those held are the front of the slice, so this is a shorter front of it
  abbrev pub older : Stack T → List T
  older s = take (length (held s) - 1) (lent s)

  -- how many entries fit in all
  abbrev pub room : Stack T → ℕ
  room s = length (lent s)
