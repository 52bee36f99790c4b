use Rattle.layers.proofs.LawProofs.{one_selection}
use Rattle.layers.proofs.laws.one_selection.Goals as goal

pub returns : goal.returns
returns c = one_selection
