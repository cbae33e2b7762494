use Rattle.evaluation.proofs.Stages.{event_told, event_done}
use Rattle.evaluation.proofs.turn.Turn.at_event.Goals as goal

pub returns-clause-done : goal.returns-clause-done
returns-clause-done g c =
    let es = g.L.Log.events c.args.log.now in
    let t = c.args.self.now in
    let timed = c.requires.timed in
    event_done t g.S.Scale.ops es timed c.event_of-event.result
    (event_told es (g.L.Log.lawful c.args.log.now) t.count t.at timed.counted t.begun t.logged c.event_of-event.result c.event_of-event.ensures)
    c.args.grades.now c.column.new.grades c.starts.new.grades c.settle.new.grades c.column.ensures.graded c.column.ensures.framed c.starts.ensures c.settle.ensures
