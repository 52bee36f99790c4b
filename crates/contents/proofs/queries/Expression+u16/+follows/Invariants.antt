use Rattle.contents.specs.Expressions.{size}
use Rattle.contents.proofs.queries.Expression+u16.+follows.Given as goal

abbrev pub decreases-follows : goal.decreases-follows
decreases-follows l = size l.self.now
