use Rattle.reporting.proofs.Alone.{enough}
use Rattle.reporting.proofs.reports.enough.Goals as goal

pub returns : goal.returns
returns c = enough
