use Rattle.std.proofs.Common.{arith, ltb-false, ltb-true}
use Rattle.grammar.proofs.Decimals.{passed_more}
use Rattle.grammar.proofs.symbol.digits.Goals as goal

pub loop-rest-preserved : goal.loop-rest-preserved
loop-rest-preserved c = passed_more _ _ _ _ c.loop-rest.invariant (omega (arith, ltb-true, ltb-false)) (omega (arith, ltb-true, ltb-false)) c.more-value.ensures
