use Rattle.record_text.proofs.Lays.{records_read}
use Rattle.record_text.proofs.laws.records_read.Goals as goal

pub returns : goal.returns
returns c = records_read
