use Rattle.evaluation.specs.Rows.{Begun}
use Rattle.evaluation.proofs.automaton.Automaton.begin.Given as goal

abbrev pub invariant-loop-l : goal.invariant-loop-l
invariant-loop-l g l = Begun g.S.Scale.ops l.boundary l.self.locations.now l.count l.l l.initial.grades l.grades
