use Rattle.semantics.proofs.Theorems.{agreement, agreement_within}
use Rattle.semantics.proofs.agreement.agreement.Goals as goal

pub returns : goal.returns
returns g c = record { rule = agreement g.S.Scale.ops g.met.S.Scale.laws; within = agreement_within g.S.Scale.ops g.met.S.Scale.laws }
