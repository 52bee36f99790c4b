use Rattle.contents.proofs.Meanings.{alive}
use Rattle.contents.proofs.laws.has_words.Goals as goal

pub returns : goal.returns
returns c = alive
