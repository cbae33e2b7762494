use Rattle.std.proofs.Common.{◌-◌, ◌<◌, ◌≤◌, get_or}
use Rattle.evaluation.specs.Rows.{no_location}
use Rattle.evaluation.specs.Passes.{Segmented}
use Rattle.evaluation.proofs.RowSteps.{Reached}
use Rattle.evaluation.proofs.turn.Turn.row_starts.Given as goal

abbrev pub invariant-loop-s : goal.invariant-loop-s
invariant-loop-s g l =
    (0 < l.s) × (l.s ≤ l.self.at)
    × Reached g.S.Scale.ops l.self l.location l.s l.initial.grades l.grades
    × Segmented g.S.Scale.ops l.self l.initial.grades (get_or l.self.automaton.locations.now l.location no_location).root l.segment
    × (l.segment.since ≤ get_or l.self.times.now (l.self.at - 1) 0 - get_or l.self.times.now (l.s - 1) 0)
