use Rattle.evaluation.proofs.MemoryLeft.{cleared}
use Rattle.evaluation.proofs.rows.clear_front.Goals as goal

pub returns : goal.returns
returns g c =
    cleared g.S.Scale.ops c.args.k c.min-end.result c.lowest.result c.args.grades.now c.fill.new.grades c.min-end.ensures c.lowest.ensures c.fill.auto.grades c.fill.ensures.wrote c.fill.ensures.framed
