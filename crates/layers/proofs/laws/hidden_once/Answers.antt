use Rattle.layers.proofs.LawProofs.{hidden_once}
use Rattle.layers.proofs.laws.hidden_once.Goals as goal

pub returns : goal.returns
returns c = hidden_once
