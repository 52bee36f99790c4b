use Rattle.contents.specs.Expressions.{size}
use Rattle.contents.proofs.expression.Expression.+numbered.Given as goal

abbrev pub decreases-numbered : goal.decreases-numbered
decreases-numbered g l = size l.self.now
