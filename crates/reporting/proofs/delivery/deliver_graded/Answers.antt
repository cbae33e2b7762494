use Rattle.std.proofs.Common.{◌≡◌, ℕ, ◌-◌, min, List, ◌++◌, length, take, drop, replicate, Some, sym, ap, ◌∙◌, ap₂, arith, length-take}
use Rattle.std.proofs.lemmas.List.{take-append-drop}
use Rattle.scales.specs.declared.doubt.Doubt.TheVariants.{No}
use Rattle.rules.specs.Rules.{form_of_rule}
use Rattle.rules.proofs.Facts.{normals_few}
use Rattle.reporting.specs.Reports.{memory_for}
use Rattle.reporting.proofs.Lent.{same_behind, accepted, output_short, memory_few, used_is}
use Rattle.reporting.proofs.delivery.deliver_graded.Goals as goal

pub copied-before-requires : goal.copied-before-requires
copied-before-requires g c =
    let es = g.L.Log.events c.args.log.now in
    let R = c.args.rule.now in
    let few = (g.L.Log.lawful c.args.log.now).few in
    omega (
      arith,
      used_is (form_of_rule R) (length es) c.count.result c.grades_needed.result c.min-used.result (length c.args.grades.now) (normals_few R) few c.count.ensures c.grades_needed.ensures c.min-used.ensures,
      memory_few (form_of_rule R) (length es) (normals_few R) few,
      length-take (c.min-used.result - 0) c.args.grades.now,
    )

pub returns-in-Ok : goal.returns-in-Ok
returns-in-Ok g c =
    let es = g.L.Log.events c.args.log.now in
    let R = c.args.rule.now in
    let old = c.args.grades.now in
    let goal = memory_for (form_of_rule R) (length es) in
    let used = c.min-used.result in
    let listed = c.in_ok-page.ensures in
    let told = c.in-Ok.ensures in
    let whole : used ≡ goal =
    used_is (form_of_rule R) (length es) c.count.result c.grades_needed.result used (length old) (normals_few R) (g.L.Log.lawful c.args.log.now).few c.count.ensures c.grades_needed.ensures c.min-used.ensures
    ∙ omega (arith, listed.1) in
    let front : min used (length c.graded_listing.new.grades) ≡ used = omega (arith, whole, listed.1, c.graded_listing.auto.grades) in
    record {
      accepted = accepted goal (length old) _ (length c.args.out.now) listed.1 (omega (arith, told.0, ap length listed.0));
      long = told.1 ∙ ap length listed.0;
      out = told.2 ∙ ap (λ bytes. bytes ++ drop c.in-Ok.length c.args.out.now) listed.0;
      cleared =
          c.clear_front.ensures ∙ ap (λ k. replicate k No ++ drop used c.graded_listing.new.grades) front
          ∙ ap (λ k. replicate k No ++ drop k c.graded_listing.new.grades) whole
          ∙ ap (λ xs. replicate goal No ++ xs) (same_behind No goal old c.graded_listing.new.grades c.graded_listing.auto.grades listed.2);
    }

pub returns-in-Err : goal.returns-in-Err
returns-in-Err g c =
    let es = g.L.Log.events c.args.log.now in
    let R = c.args.rule.now in
    let old = c.args.grades.now in
    let goal = memory_for (form_of_rule R) (length es) in
    let used = c.min-used.result in
    let listed = c.in_ok-page.ensures in
    let told = c.in-Err.ensures in
    let front =
    used_is (form_of_rule R) (length es) c.count.result c.grades_needed.result used (length old) (normals_few R) (g.L.Log.lawful c.args.log.now).few c.count.ensures c.grades_needed.ensures c.min-used.ensures in
    let whole : used - 0 ≡ goal = omega (arith, front, listed.1) in
    record {
      first = output_short goal (length old) _ (length c.args.out.now) listed.1 (omega (arith, told.1, ap length listed.0)) ∙ ap Some (sym told.0);
      out = told.2;
      kept =
          ap₂ (λ (front : List _) (k : ℕ). front ++ drop k c.graded_listing.new.grades)
          (c.copy_from_slice.ensures.after ∙ c.as_slice.ensures.is ∙ c.copied-before.ensures ∙ ap (λ k. take k old) whole) whole
          ∙ ap (λ xs. take goal old ++ xs) (same_behind No goal old c.graded_listing.new.grades c.graded_listing.auto.grades listed.2) ∙ take-append-drop goal old;
    }
