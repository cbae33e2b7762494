use Rattle.scales.proofs.Orders.{lattice, dual_laws}
use Rattle.scales.proofs.lattice.lattice.Goals as goal

pub returns : goal.returns
returns g c =
    record {
      facts = lattice g.S.Scale.ops g.met.S.Scale.laws;
      upside_down = dual_laws g.S.Scale.ops g.met.S.Scale.laws;
    }
