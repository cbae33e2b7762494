use Rattle.semantics.proofs.Theorems.{monotone}
use Rattle.semantics.proofs.boundaries.monotone.Goals as goal

pub returns : goal.returns
returns g c = monotone g.S.Scale.ops g.met.S.Scale.laws
