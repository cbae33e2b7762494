use Rattle.std.proofs.Common.{◌*◌, length}
use Rattle.evaluation.specs.Passes.{EventsDone, Rest}
use Rattle.evaluation.proofs.passes.backward_by.Given as goal

abbrev pub invariant-loop-at : goal.invariant-loop-at
invariant-loop-at g l =
    EventsDone g.S.Scale.ops (g.L.Log.events l.log) l.automaton.cells.now l.automaton.locations.now l.count l.at l.initial.grades l.grades
    × Rest g.S.Scale.ops (length l.automaton.locations.now * l.count) (length l.automaton.cells.now) l.initial.grades l.grades
