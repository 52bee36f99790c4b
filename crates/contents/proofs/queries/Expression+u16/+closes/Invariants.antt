use Rattle.contents.specs.Expressions.{size}
use Rattle.contents.proofs.queries.Expression+u16.+closes.Given as goal

abbrev pub decreases-closes : goal.decreases-closes
decreases-closes l = size l.self.now
