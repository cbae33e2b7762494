use Rattle.std.proofs.lemmas.Result.{MatchResult-weaker}
use Rattle.running.proofs.Grades.{rule_ran}
use Rattle.running.proofs.rule_runs.run.Goals as goal

pub returns-clause-answer : goal.returns-clause-answer
returns-clause-answer g c =
    MatchResult-weaker c.evaluate.result c.evaluate.ensures
    (λ n made. rule_ran g.S.Scale.ops g.met.S.Scale.laws c.args.rule.now _ (g.L.Log.lawful c.args.log.now) n _ _ made)
    (λ e turned. turned)
