use Rattle.layers.proofs.LawProofs.{hidden_and_kept}
use Rattle.layers.proofs.laws.hidden_and_kept.Goals as goal

pub returns : goal.returns
returns c = hidden_and_kept
