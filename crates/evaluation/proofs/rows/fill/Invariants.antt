use Rattle.std.proofs.Common.{◌≡◌, ℕ, ◌<◌, get_or}
use Rattle.evaluation.proofs.rows.fill.Given as goal

abbrev pub invariant-loop-place : goal.invariant-loop-place
invariant-loop-place g l = (a : ℕ) → a < l.place-index → get_or l.place-items a g.S.Scale.ops.low ≡ l.grade
