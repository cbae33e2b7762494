use Rattle.evaluation.proofs.turn.Turn.+segment_at.Given as goal

abbrev pub decreases-segment_at : goal.decreases-segment_at
decreases-segment_at g l = l.k
