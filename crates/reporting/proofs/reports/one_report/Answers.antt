use Rattle.reporting.proofs.Alone.{one_report_lem}
use Rattle.reporting.proofs.reports.one_report.Goals as goal

pub returns : goal.returns
returns c = one_report_lem
