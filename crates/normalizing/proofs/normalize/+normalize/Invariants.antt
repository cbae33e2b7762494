use Rattle.normalizing.proofs.normalize.+normalize.Given as goal

abbrev pub decreases-normalize : goal.decreases-normalize
decreases-normalize l = l.form
