use Rattle.std.proofs.Common.{length}
use Rattle.grammar.specs.Runs.{Passed}
use Rattle.grammar.proofs.symbol.digits.Given as goal

abbrev pub invariant-loop-rest : goal.invariant-loop-rest
invariant-loop-rest l = Passed l.text l.value l.rest

abbrev pub decreases-loop-rest : goal.decreases-loop-rest
decreases-loop-rest l = length l.rest
