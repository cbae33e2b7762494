use Rattle.std.proofs.Common.{sym, ◌∙◌, arith, ltb-false, ltb-true}
use Rattle.grammar.proofs.Fronts.{skip_space, skip_none, skip_other}
use Rattle.grammar.proofs.symbol.skipped.Goals as goal

pub loop-rest-preserved : goal.loop-rest-preserved
loop-rest-preserved c = skip_space _ (omega (arith, ltb-true, ltb-false)) (omega arith) ∙ c.loop-rest.invariant

pub returns-in_default : goal.returns-in_default
returns-in_default c = sym (skip_none _ (omega (arith, ltb-true, ltb-false))) ∙ c.loop-rest.invariant

pub returns-in_default-2 : goal.returns-in_default-2
returns-in_default-2 c = sym (skip_other _ (omega (arith, ltb-true, ltb-false)) (omega arith)) ∙ c.loop-rest.invariant
