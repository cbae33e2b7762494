use Rattle.evaluation.specs.Rows.{Moved}
use Rattle.evaluation.proofs.turn.Turn.settle.Given as goal

abbrev pub invariant-loop-l : goal.invariant-loop-l
invariant-loop-l g l = Moved g.S.Scale.ops l.self l.l l.initial.grades l.grades
