use Rattle.layers.proofs.LawProofs.{non_word_hides_nothing}
use Rattle.layers.proofs.laws.non_word_hides_nothing.Goals as goal

pub returns : goal.returns
returns c = non_word_hides_nothing
