use Rattle.semantics.proofs.Cases.{worked_cases_lem}
use Rattle.semantics.proofs.worked.worked_cases.Goals as goal

pub returns : goal.returns
returns c = worked_cases_lem
