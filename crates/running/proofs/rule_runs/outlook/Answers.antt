use Rattle.std.proofs.Common.{◌≡◌, ◌+◌, ◌*◌, length, refl, ap, ◌∙◌, inl, inr, arith}
use Rattle.semantics.specs.Cells.{table, entries}
use Rattle.evaluation.specs.RuleEvaluations.{normal_form, grades_for}
use Rattle.running.proofs.Grades.{grades_few, outlook_absent, rule_seen}
use Rattle.running.proofs.rule_runs.outlook.Goals as goal
use Rattle.running.proofs.rule_runs.outlook.Goals.{After-grades_needed-need, then-event-eq0-via-then-event-eq0, then-event-eq0-via-else-event-eq0+then-event-count}

-- the memory that is asked for is the memory that is needed
asked : (g : _) (c : goal.After-grades_needed-need g) → c.grades_needed-need.result ≡ grades_for c.args.rule.now (g.L.Log.events c.args.log.now)
asked g c =
    let R = c.args.rule.now in
    let es = g.L.Log.events c.args.log.now in
    let whole : length (entries (normal_form R)) * c.count-count.result + 2 * length (table (normal_form R)) ≡ grades_for R es =
    ap (λ n. length (entries (normal_form R)) * n + 2 * length (table (normal_form R))) c.count-count.ensures in
    omega (arith, whole, c.grades_needed-need.ensures, grades_few R es (g.L.Log.lawful c.args.log.now).few)

pub returns-then-event-eq0-clause-answer : goal.returns-then-event-eq0-clause-answer
returns-then-event-eq0-clause-answer g c =
    let need_is = asked g (goal.at.returns-then-event-eq0-clause-answer g c).After-grades_needed-need in
    record {
      first =
          outlook_absent _ _ _ c.args.event (omega arith)
          (elim c.then-event-eq0.branch [
            | then-event-eq0-via-then-event-eq0 w ↦ inl w.if-event-eq0.true
            | then-event-eq0-via-else-event-eq0+then-event-count w ↦ inr (omega (arith, c.count-count.ensures))
          ]);
      unchanged = refl;
    }

pub foresee-floor-requires-clause-fits : goal.foresee-floor-requires-clause-fits
foresee-floor-requires-clause-fits g c =
    let need_is = asked g (goal.at.foresee-floor-requires-clause-fits g c).After-grades_needed-need in omega arith

pub returns-clause-answer : goal.returns-clause-answer
returns-clause-answer g c =
    let S = g.S.Scale.ops in
    let R = c.args.rule.now in
    let es = g.L.Log.events c.args.log.now in
    rule_seen S g.met.S.Scale.laws R es c.args.event (omega arith) (omega (arith, c.count-count.ensures)) c.args.table.now.grades.now
    c.foresee-floor.new.grades c.foresee-ceiling.new.grades c.clear_front.new.grades
    c.foresee-floor.result c.foresee-ceiling.result c.grades_needed-need.result (length es) c.foresee-floor.ensures.evaluated c.foresee-ceiling.ensures.evaluated
    c.foresee-floor.ensures.answer c.foresee-ceiling.ensures.answer (asked g (goal.at.returns-clause-answer g c).After-grades_needed-need)
    (c.foresee-ceiling.auto.grades ∙ c.foresee-floor.auto.grades) c.clear_front.ensures
