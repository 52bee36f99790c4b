use Rattle.record_text.proofs.Unique.{one_list}
use Rattle.record_text.proofs.laws.one_list.Goals as goal

pub returns : goal.returns
returns c = one_list
