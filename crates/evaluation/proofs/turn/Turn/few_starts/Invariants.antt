use Rattle.std.proofs.Common.{◌<◌, ◌≤◌}
use Rattle.evaluation.proofs.RowSteps.{Reached}
use Rattle.evaluation.proofs.turn.Turn.few_starts.Given as goal

abbrev pub invariant-loop-s : goal.invariant-loop-s
invariant-loop-s g l = (0 < l.s) × (l.s ≤ l.self.at) × Reached g.S.Scale.ops l.self l.location l.s l.initial.grades l.grades
