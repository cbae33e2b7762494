use Rattle.std.proofs.Common.{◌≡◌, ◌+◌, ◌-◌, ◌<◌, length, refl, ap, ◌∙◌, arith}
use Rattle.std.proofs.lemmas.List.{get_or_append_left}
use Rattle.logs.specs.Logs.{event_at}
use Rattle.evaluation.proofs.passes.times_of.Goals as goal

pub returns-clause-timed : goal.returns-clause-timed
returns-clause-timed g c =
    let es = g.L.Log.events c.args.log.now in
    let few = (g.L.Log.lawful c.args.log.now).few in
    record {
      counted = refl;
      told =
          λ r p h.
          let inside : r - 1 < length c.loop-k.time-items = omega arith in
          let back : r - 1 + 1 ≡ r = omega arith in
          get_or_append_left c.loop-k.time-items _ 0 (r - 1) inside ∙ c.loop-k.invariant.1 (r - 1) (omega arith) ∙ ap (λ i. (event_at es i).time) back;
      timely = (g.L.Log.lawful c.args.log.now).rising;
    }
