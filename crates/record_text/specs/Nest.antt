-- The open elements, as the reader of items has them.
use Rattle.std.specs.Prelude.{List, [], ◌∷◌, ◌++◌}
use Rattle.lent.specs.Stacks.{held}
use Rattle.record_text.specs.declared.nest.Nest.{Nest}
use Rattle.record_text.specs.declared.nest.OpenTag.{OpenTag}
use Rattle.record_text.specs.declared.nest.Held.TheVariants as code
use Rattle.record_text.specs.Machine.{Open, opened, Held, blanks, elements, value, Shape, shape}

abbrev pub open_of : OpenTag → Open
open_of o = opened o.name.now o.place o.node

-- the newest first
abbrev pub ups : List OpenTag → List Open
ups [] = []
ups (o ∷ os) = ups os ++ open_of o ∷ []

abbrev pub held_of : code.the_data → Held
held_of code.Blanks = blanks
held_of code.Elements = elements
held_of (code.Value v) = value v

abbrev pub shape_of : Nest → Shape
shape_of n = shape n.nodes (ups (held n.tags)) (held_of n.held)
