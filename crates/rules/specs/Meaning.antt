-- What a rule means, on any scale.
use Rattle.std.specs.Prelude.{◌≡◌, ℕ, ◌≤◌, List, length}
use Rattle.logs.specs.declared.event.Event.{Event}
use Rattle.scales.specs.Scales.{Ops}
use Rattle.semantics.specs.Words.{word}
use Rattle.semantics.specs.Forms.{grade}
use Rattle.semantics.specs.Normals.{normal_grade}
use Rattle.semantics.specs.Values.{value, run_boundary}
use Rattle.semantics.specs.Continuations.{Timely}
use Rattle.rules.specs.declared.rule.Rule.{Rule}
use Rattle.rules.specs.Rules.{form_of_rule, normal_of_rule, automaton_of_rule}

module _ {G : Type 0} (S : Ops G) (R : Rule) where
  -- its normal form has the grade of its form, at every event of every list
  abbrev pub NormalMeans : Type 0
  NormalMeans = (es : List Event) (i : ℕ) → normal_grade S (word S es) (normal_of_rule R) i ≡ grade S (word S es) (form_of_rule R) i

  -- location 0 of its automaton, started at an event, has that grade too
  abbrev pub AutomatonMeans : Type 0
  AutomatonMeans =
      (es : List Event) → Timely es → (i : ℕ) → 1 ≤ i → i ≤ length es →
      value S (word S es) (automaton_of_rule R) (run_boundary S (automaton_of_rule R)) 0 i i ≡ grade S (word S es) (form_of_rule R) i
