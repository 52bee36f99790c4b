use Rattle.contents.proofs.Marks.{marking_linear}
use Rattle.contents.proofs.laws.marking_rule.Goals as goal

pub returns : goal.returns
returns c = marking_linear
