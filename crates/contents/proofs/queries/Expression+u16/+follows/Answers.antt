use Rattle.std.proofs.Common.{false, rules}
use Rattle.contents.specs.Expressions.{content}
use Rattle.contents.proofs.Told.{told_follows}
use Rattle.contents.proofs.queries.Expression+u16.+follows.Goals as goal

pub returns-in-Empty-clause-means : goal.returns-in-Empty-clause-means
returns-in-Empty-clause-means t c = told_follows (content c.args.self.now) c.args.p c.args.q false (search rules)

pub returns-in-Empty-2-clause-means : goal.returns-in-Empty-2-clause-means
returns-in-Empty-2-clause-means t c = told_follows (content c.args.self.now) c.args.p c.args.q false (search rules)
