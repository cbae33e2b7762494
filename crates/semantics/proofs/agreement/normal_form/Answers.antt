use Rattle.semantics.proofs.Theorems.{normal_same, normal_opposed}
use Rattle.semantics.proofs.agreement.normal_form.Goals as goal

pub returns : goal.returns
returns g c = record { same = normal_same g.S.Scale.ops g.met.S.Scale.laws; opposed = normal_opposed g.S.Scale.ops g.met.S.Scale.laws }
