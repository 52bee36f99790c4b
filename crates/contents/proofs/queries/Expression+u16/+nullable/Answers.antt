use Rattle.std.proofs.Common.{true, rules}
use Rattle.contents.specs.Expressions.{content}
use Rattle.contents.proofs.Told.{told_nullable}
use Rattle.contents.proofs.queries.Expression+u16.+nullable.Goals as goal

pub returns-in-Empty-clause-means : goal.returns-in-Empty-clause-means
returns-in-Empty-clause-means t c = told_nullable (content c.args.self.now) true (search rules)

pub returns-in-Empty-2-clause-means : goal.returns-in-Empty-2-clause-means
returns-in-Empty-2-clause-means t c = told_nullable (content c.args.self.now) true (search rules)

pub returns-in-Empty-3-clause-means : goal.returns-in-Empty-3-clause-means
returns-in-Empty-3-clause-means t c = told_nullable (content c.args.self.now) true (search rules)
