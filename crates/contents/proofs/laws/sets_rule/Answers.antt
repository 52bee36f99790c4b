use Rattle.contents.proofs.Meanings.{sets_right}
use Rattle.contents.proofs.laws.sets_rule.Goals as goal

pub returns : goal.returns
returns c = sets_right
