use Rattle.evaluation.proofs.Turns.{sound}
use Rattle.evaluation.proofs.turn.Turn.row_deadline.Goals as goal

pub deadline_of-requires : goal.deadline_of-requires
deadline_of-requires c = (sound c.args.self.now.automaton).rooted c.args.location c.requires
