-- What an evaluation of a rule leaves in memory, by the rule's automaton.
use Rattle.std.specs.Prelude.{◌≡◌, ℕ, ◌+◌, ◌*◌, ◌<◌, ◌≤◌, true, cond, List, length, Some, None, Option, nat_lt, slice_index_or}
use Rattle.refusals.specs.declared.refusal.Refusal.{Refusal}
use Rattle.refusals.specs.declared.refusal.Refusal.TheVariants.{MemoryTooShort}
use Rattle.scales.specs.Scales.{Ops}
use Rattle.logs.specs.declared.event.Event.{Event}
use Rattle.semantics.specs.Words.{word}
use Rattle.semantics.specs.Normals.{Normal, normal}
use Rattle.semantics.specs.Automata.{automaton}
use Rattle.semantics.specs.Cells.{table, entries}
use Rattle.semantics.specs.Values.{value}
use Rattle.rules.specs.declared.rule.Rule.{Rule}
use Rattle.rules.specs.Rules.{form_of_rule}
use Rattle.evaluation.specs.declared.boundary.Boundary.{Boundary}
use Rattle.evaluation.specs.Boundaries.{after}
use Rattle.evaluation.specs.Columns.{held_from, held}

-- the rule's normal form
abbrev pub normal_form : Rule → Normal
normal_form R = normal true (form_of_rule R)

-- the grades that are needed over es: locations × events, and two a cell
abbrev pub grades_for : Rule → List Event → ℕ
grades_for R es = length (entries (normal_form R)) * length es + 2 * length (table (normal_form R))

-- why a call that needs so many grades is turned down for having m, if it is
abbrev pub memory_refusal : ℕ → ℕ → Option Refusal
memory_refusal need m = cond (nat_lt m need) (Some MemoryTooShort) None

-- a call that is turned down for a reason changes nothing
pub record Refused {G : Type 0} (answer : Option Refusal) (reason : Refusal) (old new : List G) : Type 0 where
  pub first : answer ≡ Some reason
  pub unchanged : new ≡ old

-- an evaluation over the boundary b that answers n
pub record RuleEvaluated {G : Type 0} (S : Ops G) (R : Rule) (es : List Event) (b : Boundary) (n : ℕ) (old new : List G) : Type 0 where
  pub counted : n ≡ length es
  pub fits : grades_for R es ≤ length old
  -- place r of location l's row is the value of l with start r at event r
  pub rows :
      (l r : ℕ) → l < length (entries (normal_form R)) → 0 < r → r ≤ length es →
      held S (length es) new l r ≡ value S (word S es) (automaton (normal_form R)) (after S (automaton (normal_form R)) b) l r r
  -- the two columns behind the rows are lowest, and what is behind them is as it was
  pub columns : (a : ℕ) → a < 2 * length (table (normal_form R)) → held_from S new (length (entries (normal_form R)) * length es) a ≡ S.low
  pub rest : (p : ℕ) → grades_for R es ≤ p → slice_index_or new p S.low ≡ slice_index_or old p S.low
