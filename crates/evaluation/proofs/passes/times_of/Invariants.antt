use Rattle.std.proofs.Common.{◌≡◌, ℕ, ◌+◌, ◌<◌, length, get_or}
use Rattle.logs.specs.Logs.{event_at}
use Rattle.evaluation.proofs.passes.times_of.Given as goal

abbrev pub invariant-loop-k : goal.invariant-loop-k
invariant-loop-k g l =
    (length l.time-items ≡ length (g.L.Log.events l.log))
    × ((r : ℕ) → r < l.k → get_or l.time-items r 0 ≡ (event_at (g.L.Log.events l.log) (r + 1)).time)
