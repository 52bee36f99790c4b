use Rattle.std.proofs.Common.{rules}
use Rattle.lexical.proofs.NumberFacts.{number_means}
use Rattle.lexical.proofs.numbers.number.Goals as goal

pub returns-clause-means : goal.returns-clause-means
returns-clause-means c = number_means c.args.bytes.now c.map.result (search rules)
