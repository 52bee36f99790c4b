use Rattle.contents.proofs.Locality.{local_language}
use Rattle.contents.proofs.laws.local_rule.Goals as goal

pub returns : goal.returns
returns c = local_language
