use Rattle.reports.proofs.OnlyReport.{one_report}
use Rattle.reports.proofs.laws.one_report.Goals as goal

pub returns : goal.returns
returns c = one_report
