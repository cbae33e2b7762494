-- A rule's run and outlook, by what the rule says.
use Rattle.std.specs.Prelude.{◌≡◌, ℕ, ◌*◌, ◌<◌, ◌≤◌, List, ◌++◌, length, drop, replicate, slice_index_or}
use Rattle.scales.specs.Scales.{Ops}
use Rattle.logs.specs.declared.event.Event.{Event}
use Rattle.semantics.specs.Words.{word}
use Rattle.semantics.specs.Cells.{table, entries}
use Rattle.semantics.specs.Values.{run_value}
use Rattle.rules.specs.declared.rule.Rule.{Rule}
use Rattle.rules.specs.Rules.{form_of_rule}
use Rattle.evaluation.specs.Columns.{held, held_from}
pub use Rattle.evaluation.specs.RuleEvaluations.{normal_form, grades_for}
use Rattle.running.specs.Tabulations.{RuleGraded, RuleForeseen}

module _ {G : Type 0} (S : Ops G) (R : Rule) (es : List Event) where
  -- a run that answers n
  pub record RuleRan (n : ℕ) (old new : List G) : Type 0 where
    pub counted : n ≡ length es
    pub fits : grades_for R es ≤ length old
    -- place r of location l's row is its value at event r with start r
    pub rows :
        (l r : ℕ) → l < length (entries (normal_form R)) → 0 < r → r ≤ length es →
        held S (length es) new l r ≡ run_value S (word S es) (normal_form R) l r r
    -- which is the rule's grade for location 0, and for that of each until and release its form's
    pub graded : RuleGraded S es (form_of_rule R) new
    -- the two columns behind the rows are lowest, and what is behind them is as it was
    pub columns : (a : ℕ) → a < 2 * length (table (normal_form R)) → held_from S new (length (entries (normal_form R)) * length es) a ≡ S.low
    pub rest : (p : ℕ) → grades_for R es ≤ p → slice_index_or new p S.low ≡ slice_index_or old p S.low

  -- an outlook at an event: floor and ceiling, the needed memory lowest and the rest as it was
  pub record RuleSeen (event : ℕ) (pair : G × G) (old new : List G) : Type 0 where
    pub begun : 0 < event
    pub logged : event ≤ length es
    pub fits : grades_for R es ≤ length old
    pub foreseen : RuleForeseen S es (form_of_rule R) event pair
    pub left : new ≡ replicate (grades_for R es) S.low ++ drop (grades_for R es) old
