use Rattle.contents.specs.Expressions.{size}
use Rattle.contents.proofs.queries.Expression+u16.+opens.Given as goal

abbrev pub decreases-opens : goal.decreases-opens
decreases-opens l = size l.self.now
