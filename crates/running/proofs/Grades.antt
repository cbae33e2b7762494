-- What an evaluation says of the rule.
use Rattle.std.proofs.Common.{◌≡◌, ℕ, suc, ◌+◌, ◌<◌, ◌≤◌, min, true, ◌⊎◌, List, ◌++◌, length, get_or, drop, replicate, Some, sym, ap, ◌∙◌, subst, inl, inr, arith}
use Rattle.std.proofs.lemmas.List.{ext_get_or, get_or_past, length-drop, get_or-drop}
use Rattle.std.proofs.lemmas.Nat.{mul-le}
use Rattle.std.proofs.lemmas.Bool.{cases_lt}
use Rattle.std.proofs.lemmas.Bool.Decides.{nat_tests}
use Rattle.refusals.specs.declared.refusal.Refusal.TheVariants.{EventAbsent}
use Rattle.scales.specs.Scales.{Ops, Laws, AtMost}
use Rattle.logs.specs.declared.event.Event.{Event}
use Rattle.logs.specs.Logs.{Lawful}
use Rattle.semantics.specs.Words.{word}
use Rattle.semantics.specs.Forms.{grade}
use Rattle.semantics.specs.Normals.{top, temporal_forms, waits}
use Rattle.semantics.specs.Cells.{entries}
use Rattle.semantics.proofs.Theorems.{tabled, agreement, agreement_within, between_lawful, settled_lawful}
use Rattle.rules.specs.declared.rule.Rule.{Rule}
use Rattle.rules.specs.Rules.{form_of_rule}
use Rattle.rules.proofs.Facts.{normals_few}
use Rattle.evaluation.specs.declared.boundary.Boundary.TheVariants.{Run, Lowest, Highest}
use Rattle.evaluation.specs.Columns.{held}
use Rattle.evaluation.specs.RuleEvaluations.{normal_form, grades_for, RuleEvaluated}
use Rattle.running.specs.Runs.{outlook_refusal}
use Rattle.running.specs.RuleRuns.{RuleRan, RuleSeen}

-- no rule over any log needs more than 65 rows of 512 events and two columns of 577 cells
pub grades_few : (R : Rule) (es : List Event) → length es ≤ 512 → grades_for R es ≤ 34434
grades_few R es few =
    let tab = tabled (normal_form R) in
    let forms = normals_few R in
    let rows : length (entries (normal_form R)) ≤ 65 = omega (arith, tab.locations_bounded) in
    omega (arith, mul-le (length (entries (normal_form R))) (length es) 65 512 rows few, tab.cells_bounded)

pub outlook_absent : (need m n event : ℕ) → need ≤ m → (event ≡ 0) ⊎ (n < event) → outlook_refusal need m n event ≡ Some EventAbsent
outlook_absent need m n event fits absent = grind (arith, nat_tests)

module _ {G : Type 0} (S : Ops G) (laws : Laws S) (R : Rule) (es : List Event) where
  -- there is a location 0
  initial : 0 < length (entries (normal_form R))
  initial = omega (arith, (tabled (normal_form R)).locations_counted)

  -- a temporal form has a location
  there : (l : ℕ) → waits (get_or (temporal_forms (normal_form R)) l top) ≡ true → suc l < length (entries (normal_form R))
  there l w =
      let tab = tabled (normal_form R) in
      elim (cases_lt l (length (temporal_forms (normal_form R)))) [
        | inl h ↦ omega (arith, tab.temporals_counted, tab.locations_counted)
        | inr past ↦
            let none = ap waits (get_or_past (temporal_forms (normal_form R)) l top past) in
            let z : ◌≡◌ {A = ℕ} 0 1 = cc in
            absurd (omega arith)
      ]

  pub rule_ran : Lawful es → (n : ℕ) (old new : List G) → RuleEvaluated S R es Run n old new → RuleRan S R es n old new
  rule_ran lawful n old new made =
      record {
        counted = made.counted;
        fits = made.fits;
        rows = made.rows;
        graded =
            record {
              rule = λ i p q. made.rows 0 i initial p q ∙ agreement S laws es lawful.rising (form_of_rule R) i p q;
              within = λ l i w p q. made.rows (suc l) i (there l w) p q ∙ agreement_within S laws es lawful.rising (normal_form R) l w i p q;
            };
        columns = made.columns;
        rest = made.rest;
      }

  module _ (event : ℕ) (begun : 0 < event) (logged : event ≤ length es) (old mid back new : List G) (low high : G) (need n : ℕ)
      (floored : RuleEvaluated S R es Lowest n old mid) (raised : RuleEvaluated S R es Highest n mid back)
      (low_is : low ≡ held S (length es) mid 0 event) (high_is : high ≡ held S (length es) back 0 event)
      (needs : need ≡ grades_for R es) (same : length back ≡ length old) (cleared : new ≡ replicate (min need (length back)) S.low ++ drop need back) where
    behind : drop need back ≡ drop need old
    behind =
        let long : length (drop need back) ≡ length (drop need old) = simp length-drop (omega arith) in
        ext_get_or S.low (drop need back) (drop need old) long
        (λ p h. get_or-drop need back p S.low ∙ raised.rest (need + p) (omega arith) ∙ floored.rest (need + p) (omega arith) ∙ sym (get_or-drop need old p S.low))

    pub rule_seen : RuleSeen S R es event (low, high) old new
    rule_seen =
        let f = form_of_rule R in
        let floor_is = low_is ∙ floored.rows 0 event initial begun logged in
        let ceiling_is = high_is ∙ raised.rows 0 event initial begun logged in
        let whole : min need (length back) ≡ need = omega (arith, floored.fits) in
        record {
          begun = begun;
          logged = logged;
          fits = floored.fits;
          foreseen =
              record {
                low_end = floor_is;
                high_end = ceiling_is;
                between =
                    λ more c.
                    let both = between_lawful S laws es more c f event begun logged in (
                      subst (λ x. AtMost S x (grade S (word S more) f event)) (sym floor_is) both.0,
                      subst (λ x. AtMost S (grade S (word S more) f event) x) (sym ceiling_is) both.1,
                    );
                final = λ more c one. settled_lawful S laws es more c f event begun logged (sym floor_is ∙ one ∙ ceiling_is) ∙ sym floor_is;
              };
          left = cleared ∙ ap (λ k. replicate k S.low ++ drop need back) whole ∙ ap (λ xs. replicate need S.low ++ xs) behind ∙ ap (λ k. replicate k S.low ++ drop k old) needs;
        }
