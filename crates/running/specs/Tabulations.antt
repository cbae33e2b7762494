-- What the memory after a run, and an outlook, say of the rule.
use Rattle.std.specs.Prelude.{◌≡◌, ℕ, suc, ◌<◌, ◌≤◌, true, List, length, slice_index_or}
use Rattle.scales.specs.Scales.{Ops, AtMost}
use Rattle.logs.specs.declared.event.Event.{Event}
use Rattle.semantics.specs.Words.{word}
use Rattle.semantics.specs.Forms.{Form, grade}
use Rattle.semantics.specs.Normals.{top, normal, normal_grade, temporal_forms, waits}
use Rattle.semantics.specs.Values.{floor, ceiling}
use Rattle.semantics.specs.Continuations.{LawfulContinuation}
use Rattle.evaluation.specs.Columns.{held}

module _ {G : Type 0} (S : Ops G) (es : List Event) (f : Form) where
  -- location 0's row has the rule's grade at every event, and the row of each until and release that form's
  pub record RuleGraded (gs : List G) : Type 0 where
    pub rule : (i : ℕ) → 0 < i → i ≤ length es → held S (length es) gs 0 i ≡ grade S (word S es) f i
    pub within :
        (l i : ℕ) → waits (slice_index_or (temporal_forms (normal true f)) l top) ≡ true → 0 < i → i ≤ length es →
        held S (length es) gs (suc l) i ≡ normal_grade S (word S es) (slice_index_or (temporal_forms (normal true f)) l top) i

  -- the pair is the rule's floor and ceiling at an event; on every lawful continuation the rule's grade lies between them,
  -- and is theirs where they are one grade
  pub record RuleForeseen (event : ℕ) (pair : G × G) : Type 0 where
    pub low_end : pair.0 ≡ floor S (word S es) (normal true f) event
    pub high_end : pair.1 ≡ ceiling S (word S es) (normal true f) event
    pub between :
        (whole : List Event) → LawfulContinuation es whole →
        AtMost S pair.0 (grade S (word S whole) f event) × AtMost S (grade S (word S whole) f event) pair.1
    pub final : (whole : List Event) → LawfulContinuation es whole → pair.0 ≡ pair.1 → grade S (word S whole) f event ≡ pair.0
