use Rattle.semantics.proofs.Theorems.{tabled}
use Rattle.semantics.proofs.tables.tables.Goals as goal

pub returns : goal.returns
returns c = tabled
