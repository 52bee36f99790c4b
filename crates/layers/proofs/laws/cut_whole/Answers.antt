use Rattle.layers.proofs.LawProofs.{cut_whole}
use Rattle.layers.proofs.laws.cut_whole.Goals as goal

pub returns : goal.returns
returns c = cut_whole
