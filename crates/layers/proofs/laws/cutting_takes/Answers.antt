use Rattle.layers.proofs.LawProofs.{cutting_takes}
use Rattle.layers.proofs.laws.cutting_takes.Goals as goal

pub returns : goal.returns
returns c = cutting_takes
