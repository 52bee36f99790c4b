use Rattle.contents.specs.Expressions.{size}
use Rattle.contents.proofs.queries.Expression+u16.+nullable.Given as goal

abbrev pub decreases-nullable : goal.decreases-nullable
decreases-nullable l = size l.self.now
