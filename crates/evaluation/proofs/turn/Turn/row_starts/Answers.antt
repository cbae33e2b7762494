use Rattle.std.proofs.Common.{◌-◌, length, sym, ◌∙◌, subst, arith}
use Rattle.tables.specs.Intervals.{upper_of}
use Rattle.evaluation.proofs.RowSteps.{clocked, clock_rises, Fitting, fitting_new, reached_more, reached_all, reached_passed}
use Rattle.evaluation.proofs.Turns.{sound}
use Rattle.evaluation.proofs.turn.Turn.row_starts.Goals as goal
use Rattle.evaluation.proofs.turn.Turn.row_starts.Goals.{then-not-at_most-2, else-not-at_most-2}

pub segment_at-segment-requires-clause-inside : goal.segment_at-segment-requires-clause-inside
segment_at-segment-requires-clause-inside g c = (sound c.args.self.now.automaton).rooted c.args.location c.requires.there

pub segment_at-segment-requires-then-not-at_most-2-clause-inside : goal.segment_at-segment-requires-then-not-at_most-2-clause-inside
segment_at-segment-requires-then-not-at_most-2-clause-inside g c = (sound c.args.self.now.automaton).rooted c.args.location c.requires.there

pub loop-s-preserved : goal.loop-s-preserved
loop-s-preserved g c =
    let S = g.S.Scale.ops in
    let laws = g.met.S.Scale.laws in
    let t = c.args.self.now in
    let times = c.args.self.now.times.now in
    let l = c.args.location in
    let s = c.loop-s.s in
    let old = c.args.grades.now in
    let gs = c.loop-s.grades in
    let clock = c.clock_of-clock.result in
    let reached = c.loop-s.invariant.2 in
    let fitting : Fitting S laws t (length old) c.requires.fits l c.requires.there old clock c.if-not-at_most-2.segment =
    elim c.if-not-at_most-2.branch [
      | then-not-at_most-2 w ↦
          let made = w.segment_at-segment-then-not-at_most-2 in
          subst (Fitting S laws t (length old) c.requires.fits l c.requires.there old clock) (sym w.segment-is)
          (fitting_new S laws t (length old) c.requires.fits l c.requires.there s old gs clock made.result c.loop-s.invariant.0 c.loop-s.invariant.1 reached made.ensures.since made.ensures.segmented)
      | else-not-at_most-2 w ↦
          subst (Fitting S laws t (length old) c.requires.fits l c.requires.there old clock) (sym w.segment-is) (record {
            segmented = c.loop-s.invariant.3;
            since = clock_rises times t.count s t.at c.loop-s.segment.since clock t.rising c.loop-s-test.true c.loop-s.invariant.1 t.logged c.loop-s.invariant.4 c.clock_of-clock.ensures;
            until = sym c.at_most-in-loop-s.ensures ∙ w.if-not-at_most-2.false;
          })
    ] in (
      omega arith,
      omega arith,
      reached_more S laws t (length old) c.requires.fits l c.requires.there (s - 1) s clock c.place.result c.if-not-at_most-2.segment
          old gs c.move_start.new.grades (omega arith) (omega arith) c.loop-s.invariant.1 c.loop-s.auto.grades c.place.ensures
          (clocked S times s t.at t.count clock (omega arith) c.loop-s.invariant.1 t.logged c.clock_of-clock.ensures)
          fitting reached c.move_start.ensures,
      fitting.segmented,
      omega (arith, fitting.since, c.clock_of-clock.ensures),
    )

pub returns-then-not-at_most : goal.returns-then-not-at_most
returns-then-not-at_most g c =
    let S = g.S.Scale.ops in
    let s = c.loop-s.s in
    reached_passed S g.met.S.Scale.laws c.args.self.now _ c.requires.fits c.args.location c.requires.there s c.clock_of-clock.result
    (upper_of c.row_deadline-deadline.result) c.args.grades.now c.loop-s.grades (omega arith) c.loop-s.invariant.1 c.row_deadline-deadline.ensures
    (sym c.at_most.ensures ∙ c.if-not-at_most.true)
    (clocked S c.args.self.now.times.now s c.args.self.now.at c.args.self.now.count c.clock_of-clock.result (omega arith) c.loop-s.invariant.1 c.args.self.now.logged c.clock_of-clock.ensures)
    c.loop-s.invariant.2

pub returns : goal.returns
returns g c =
    reached_all g.S.Scale.ops g.met.S.Scale.laws c.args.self.now _ c.requires.fits c.args.location c.requires.there c.loop-s.s
    c.args.grades.now c.loop-s.grades (omega arith) c.loop-s.invariant.2
