use Rattle.limits.proofs.depths.+depth_at.Given as goal

abbrev pub decreases-depth_at : goal.decreases-depth_at
decreases-depth_at l = l.form
