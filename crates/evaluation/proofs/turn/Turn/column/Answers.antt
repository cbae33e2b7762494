use Rattle.std.proofs.Common.{◌+◌, length, get_or, set, sym, ap, subst}
use Rattle.tables.specs.declared.cell.Cell.TheVariants.{Accept}
use Rattle.evaluation.specs.Columns.{Reach, graded_by}
use Rattle.evaluation.proofs.Columns.{reach_at, graded_more, framed_more}
use Rattle.evaluation.proofs.Turns.{named_before}
use Rattle.evaluation.proofs.turn.Turn.column.Goals as goal

pub graded-requires : goal.graded-requires
graded-requires g c =
    let t = c.args.self.now in
    let cells = t.automaton.cells.now in
    let n = length c.args.grades.now in
    subst (λ m. Reach t m (get_or cells c.loop-k.k Accept)) (sym c.loop-k.auto.grades)
    (reach_at g.S.Scale.ops c.args.event.now t n c.requires (named_before t) c.loop-k.k c.loop-k-test.true)

pub loop-k-preserved : goal.loop-k-preserved
loop-k-preserved g c =
    let S = g.S.Scale.ops in
    let e = c.args.event.now in
    let t = c.args.self.now in
    let cells = t.automaton.cells.now in
    let n = length c.args.grades.now in
    let gs = c.loop-k.grades in
    let k = c.loop-k.k in
    let written = ap (set gs (t.base + k)) c.graded.ensures in (
      graded_more S e t n c.requires (named_before t) k gs _ c.loop-k.auto.grades c.loop-k-test.true written c.loop-k.invariant.0,
      framed_more S t.base k c.args.grades.now gs _ (graded_by S e t gs (get_or cells k Accept)) written c.loop-k.invariant.1,
    )
