-- The tag that the code tells, by its body.
use Rattle.std.specs.Prelude.{◌≡◌, ℕ, false, List, [], ◌∷◌, ◌++◌, Some, None, Option}
use Rattle.record_text.specs.declared.tags.Tag.{Tag as Told}
use Rattle.record_text.specs.declared.tags.Tag.TheVariants.{Opening, Closing, Alone}
use Rattle.record_text.specs.Machine.{Tag, opens, closes, whole, bad}
use Rattle.record_text.specs.Reading.{slash_first, slash_last}

abbrev pub named_as : Told → Tag
named_as (Opening w) = opens w.now
named_as (Closing w) = closes w.now
named_as (Alone w) = whole w.now

abbrev pub told : Option Told → Tag
told None = bad
told (Some x) = named_as x

abbrev pub name_in : Told → List ℕ
name_in (Opening w) = w.now
name_in (Closing w) = w.now
name_in (Alone w) = w.now

-- a slash first makes a closing tag, and else one at the end a tag that stands alone
abbrev pub Slashed : List ℕ → Told → Type 0
Slashed bs (Opening w) = (slash_first bs ≡ false) × (slash_last bs ≡ false) × (w.now ≡ bs)
Slashed bs (Closing w) = 47 ∷ w.now ≡ bs
Slashed bs (Alone w) = (slash_first bs ≡ false) × (w.now ++ 47 ∷ [] ≡ bs)
