use Rattle.layers.proofs.LawProofs.{hiding_keeps}
use Rattle.layers.proofs.laws.hiding_keeps.Goals as goal

pub returns : goal.returns
returns c = hiding_keeps
