use Rattle.evaluation.specs.Passes.{RowsDone}
use Rattle.evaluation.proofs.turn.Turn.starts.Given as goal

abbrev pub invariant-loop-l : goal.invariant-loop-l
invariant-loop-l g l = RowsDone g.S.Scale.ops l.self l.l l.initial.grades l.grades
