use Rattle.std.proofs.Common.{◌*◌, ◌≤◌, length, ap, subst, arith}
use Rattle.evaluation.specs.Evaluations.{needed}
use Rattle.evaluation.specs.RuleEvaluations.{RuleEvaluated}
use Rattle.evaluation.proofs.Connections.{rule_evaluated}
use Rattle.evaluation.proofs.Turns.{tabulated}
use Rattle.evaluation.proofs.evaluating.evaluate.Goals as goal

pub returns : goal.returns
returns g c =
    let S = g.S.Scale.ops in
    let es = g.L.Log.events c.args.log.now in
    let A = c.of-automaton.result in
    let n = c.count-count.result in
    let old = c.args.grades.now in
    let new = c.evaluate_tables.new.grades in
    let fits : needed es A.cells.now A.locations.now ≤ length old = omega (arith, ap (λ k. length A.locations.now * k) c.count-count.ensures) in
    subst (λ R. RuleEvaluated S R es c.args.boundary n old new) c.of-automaton.ensures
    (rule_evaluated A.rule.now es _ _ (tabulated A) S c.args.boundary n old new c.count-count.ensures fits c.evaluate_tables.ensures)
