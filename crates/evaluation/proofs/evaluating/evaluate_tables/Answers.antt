use Rattle.evaluation.proofs.MemoryLeft.{evaluated}
use Rattle.evaluation.proofs.evaluating.evaluate_tables.Goals as goal

pub returns : goal.returns
returns g c =
    evaluated g.S.Scale.ops (g.L.Log.events c.args.log.now) c.args.automaton.now.cells.now c.args.automaton.now.locations.now c.args.boundary c.args.count c.lowest.result
    c.args.grades.now c.begin.new.grades c.backward.new.grades c.fill.new.grades c.requires.counted c.lowest.ensures
    c.begin.ensures c.backward.ensures.done c.backward.ensures.rest c.fill.ensures.wrote c.fill.ensures.framed
