use Rattle.semantics.proofs.Theorems.{settled, settled_lawful}
use Rattle.semantics.proofs.outlook.settled.Goals as goal

pub returns : goal.returns
returns g c = record { timely = settled g.S.Scale.ops g.met.S.Scale.laws; lawful = settled_lawful g.S.Scale.ops g.met.S.Scale.laws }
