use Rattle.evaluation.proofs.automaton.Automaton.+deadline_of.Given as goal

abbrev pub decreases-deadline_of : goal.decreases-deadline_of
decreases-deadline_of l = l.k
