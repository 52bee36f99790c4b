-- The cutter by the items that it gives.
use Rattle.std.specs.Prelude.{◌≡◌, ℕ, ◌-◌, List, [], length, Some, None, Option}
use Rattle.record_text.specs.declared.items.Cutter.{Cutter}
use Rattle.record_text.specs.declared.items.Placed.{Placed}
use Rattle.record_text.specs.Grammar.{Item}
use Rattle.record_text.specs.Machine.{items}
use Rattle.record_text.specs.Cutting.{First}

-- the place of the next item
abbrev pub from : Cutter → ℕ
from c = c.len - length c.rest.now

-- the items that are left
abbrev pub left : Cutter → List Item
left c = items c.rest.now

-- the next item, where the cutter is c before and c' afterwards
abbrev pub Cuts : Cutter → Option Placed → Cutter → Type 0
Cuts c None c' = (c.rest.now ≡ []) × (c' ≡ c)
Cuts c (Some x) c' = (c'.len ≡ c.len) × First c.rest.now x.item c'.rest.now × (x.start ≡ from c) × (x.end ≡ from c')
