use Rattle.semantics.specs.Relations.{Equated}
use Rattle.semantics.proofs.Relations.{values_related, values_related_throughout}
use Rattle.semantics.proofs.boundaries.relational.Goals as goal

pub returns : goal.returns
returns g c =
    let S = g.S.Scale.ops in
    let T = g.T.Scale.ops in
    record {
      throughout = λ left right. values_related_throughout (Equated left right) S T;
      ahead = λ left right. values_related (Equated left right) S T;
    }
