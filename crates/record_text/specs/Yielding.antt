-- The nodes that a reader gives, one by one.
use Rattle.std.specs.Prelude.{◌≡◌, ℕ, ◌<◌, List, [], ◌∷◌, length, Some, None, Ok, Err, Option as Maybe, Result}
use Rattle.refusals.specs.declared.Refusal.{Refusal}
use Rattle.record_text.specs.declared.reader.Reader.{Reader}
use Rattle.record_text.specs.Reading.{Outcome, accepted}
use Rattle.record_text.specs.Pass.{check, Done, done}
use Rattle.record_text.specs.Cutter.{from, left}
use Rattle.record_text.specs.Nest.{shape_of}
use Rattle.record_text.specs.Turns.{outcome}

-- the outcome that is to come, and the nodes
abbrev pub pending : Reader → Outcome
pending r = check (from r.cutter) (shape_of r.nest) (left r.cutter)

abbrev pub coming : Reader → List Done
coming r = done (from r.cutter) (shape_of r.nest) (left r.cutter)

-- how many bytes are left
abbrev pub bytes_left : Reader → ℕ
bytes_left r = length r.cutter.rest.now

-- the next node, where the reader is r before and r' afterwards
abbrev pub Yields : Reader → Result (Maybe Done) Refusal → Reader → Type 0
Yields r (Ok (Some x)) r' = (pending r ≡ pending r') × (coming r ≡ x ∷ coming r') × (bytes_left r' < bytes_left r)
Yields r (Ok None) r' = (pending r ≡ accepted r'.nest.nodes) × (coming r ≡ [])
Yields r (Err e) r' = outcome (pending r) ≡ Err e
