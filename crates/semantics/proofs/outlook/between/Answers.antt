use Rattle.semantics.proofs.Theorems.{between, between_lawful}
use Rattle.semantics.proofs.outlook.between.Goals as goal

pub returns : goal.returns
returns g c = record { timely = between g.S.Scale.ops g.met.S.Scale.laws; lawful = between_lawful g.S.Scale.ops g.met.S.Scale.laws }
