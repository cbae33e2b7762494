use Rattle.std.proofs.Common.{◌+◌, ◌<◌, length, get_or, set, ap₂, arith, rules}
use Rattle.std.proofs.lemmas.List.{get_or_read}
use Rattle.evaluation.specs.Rows.{no_location}
use Rattle.evaluation.proofs.RowMoves.{moved_more}
use Rattle.evaluation.proofs.Turns.{sound, row_first}
use Rattle.evaluation.proofs.turn.Turn.settle.Goals as goal

pub offset_bounds-grades-place : goal.offset_bounds-grades-place
offset_bounds-grades-place g c =
    let t = c.args.self.now in
    let inside : c.place.result < length c.loop-l.grades = omega (arith, row_first t c.loop-l.l t.at c.loop-l-test.true t.begun t.logged) in
    search rules

pub offset_bounds-grades-self : goal.offset_bounds-grades-self
offset_bounds-grades-self g c =
    let t = c.args.self.now in
    let inside : t.base + (get_or t.automaton.locations.now c.loop-l.l no_location).root < length c.loop-l.grades =
    omega (arith, (sound t.automaton).rooted c.loop-l.l c.loop-l-test.true) in
    search rules

pub bounds-grades-self : goal.bounds-grades-self
bounds-grades-self g c = omega (arith, (sound c.args.self.now.automaton).rooted c.loop-l.l c.loop-l-test.true)

pub loop-l-preserved : goal.loop-l-preserved
loop-l-preserved g c =
    let S = g.S.Scale.ops in
    let t = c.args.self.now in
    let gs = c.loop-l.grades in
    let room : t.base + (get_or t.automaton.locations.now c.loop-l.l no_location).root < length gs = omega (arith, (sound t.automaton).rooted c.loop-l.l c.loop-l-test.true) in
    moved_more S t c.loop-l.l c.args.grades.now gs (omega arith) c.loop-l-test.true c.loop-l.invariant
    _ (ap₂ (set gs) c.place.ensures (get_or_read gs _ c.index-grades-self.result room c.index-grades-self.is S.low))
