use Rattle.evaluation.proofs.turn.Turn.+value.Given as goal

abbrev pub decreases-value : goal.decreases-value
decreases-value g l = l.k
