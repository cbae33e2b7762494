use Rattle.std.proofs.Common.{◌≡◌, length, subst, arith}
use Rattle.evaluation.specs.Passes.{RowsDone}
use Rattle.evaluation.proofs.RowSteps.{rows_more}
use Rattle.evaluation.proofs.Turns.{sound}
use Rattle.evaluation.proofs.turn.Turn.starts.Goals as goal

pub loop-l-preserved : goal.loop-l-preserved
loop-l-preserved g c =
    rows_more g.S.Scale.ops c.args.self.now c.loop-l.l c.args.grades.now c.loop-l.grades c.row_starts.new.grades c.loop-l-test.true c.loop-l.invariant c.row_starts.ensures

pub returns : goal.returns
returns g c =
    let t = c.args.self.now in
    let there : c.loop-l.l ≡ length t.automaton.locations.now = omega (arith, (sound t.automaton).initial, c.loop-l.auto.l-end) in
    subst (λ j. RowsDone g.S.Scale.ops t j c.args.grades.now c.loop-l.grades) there c.loop-l.invariant
