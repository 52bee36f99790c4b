use Rattle.record_text.proofs.Unique.{one_cut}
use Rattle.record_text.proofs.laws.one_cut.Goals as goal

pub returns : goal.returns
returns c = one_cut
