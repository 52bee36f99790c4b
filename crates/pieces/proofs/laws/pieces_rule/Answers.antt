use Rattle.pieces.proofs.Cuts.{pieces_rule}
use Rattle.pieces.proofs.laws.pieces_rule.Goals as goal

pub returns : goal.returns
returns c = pieces_rule
