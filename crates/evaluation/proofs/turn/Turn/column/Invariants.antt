use Rattle.evaluation.specs.Columns.{Graded, Framed}
use Rattle.evaluation.proofs.turn.Turn.column.Given as goal

abbrev pub invariant-loop-k : goal.invariant-loop-k
invariant-loop-k g l =
    Graded g.S.Scale.ops l.event l.self l.k l.grades
    × Framed g.S.Scale.ops l.self.base l.k l.initial.grades l.grades
