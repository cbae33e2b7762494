use Rattle.std.proofs.Common.{refl, arith}
use Rattle.evaluation.proofs.RowSteps.{times_rising}
use Rattle.evaluation.proofs.passes.backward_by.Goals as goal

pub invariant_of-turn : goal.invariant_of-turn
invariant_of-turn g c =
    let es = g.L.Log.events c.args.log.now in
    let few = (g.L.Log.lawful c.args.log.now).few in
    record {
      begun = omega arith;
      logged = omega arith;
      few = omega (arith, c.requires.timed.counted);
      based = refl;
      timed = c.requires.long;
      rising = times_rising es _ _ c.requires.timed;
    }
