use Rattle.record_text.proofs.Tells.{keeps_shape}
use Rattle.record_text.proofs.laws.keeps_shape.Goals as goal

pub returns : goal.returns
returns c = keeps_shape
