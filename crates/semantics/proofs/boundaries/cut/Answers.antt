use Rattle.semantics.proofs.Theorems.{cut}
use Rattle.semantics.proofs.boundaries.cut.Goals as goal

pub returns : goal.returns
returns g c = cut g.S.Scale.ops
