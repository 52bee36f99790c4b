use Rattle.record_text.proofs.Openings.{one_opening}
use Rattle.record_text.proofs.laws.one_opening.Goals as goal

pub returns : goal.returns
returns c = one_opening
