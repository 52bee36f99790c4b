use Rattle.std.proofs.Common.{◌≡◌, ◌++◌, length, vec_items}
use Rattle.pieces.specs.Cutting.{pieces}
use Rattle.pieces.specs.Tokens.{pieces_of}
use Rattle.pieces.proofs.cutting.cut.Given as goal

-- the pieces so far, and those of the rest, are all
abbrev pub invariant-loop-token : goal.invariant-loop-token
invariant-loop-token l = pieces_of (vec_items l.tokens) ++ pieces l.rest ≡ pieces l.text

abbrev pub decreases-loop-token : goal.decreases-loop-token
decreases-loop-token l = length l.rest
