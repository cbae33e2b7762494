-- The column of an event: every cell with its start there, graded from what stands in memory.
use Rattle.std.specs.Prelude.{◌≡◌, ℕ, ◌+◌, ◌-◌, ◌*◌, ◌<◌, ◌≤◌, not, List, slice_index_or}
use Rattle.scales.specs.Scales.{Ops}
use Rattle.logs.specs.declared.event.Event.{Event}
use Rattle.logs.specs.Logs.{reading_of}
use Rattle.semantics.specs.Forms.{inside, within_upper}
use Rattle.semantics.specs.Values.{test}
use Rattle.tables.specs.declared.cell.Cell.{Cell}
use Rattle.tables.specs.declared.cell.Cell.TheVariants.{Accept, Reject, Holds, Fails, And, Or, Inside, Outside, AtMost, Above, Reset, Jump}
use Rattle.tables.specs.Intervals.{upper_of, interval_of}
use Rattle.evaluation.specs.declared.turn.Turn.{Turn}

-- the grade of a cell at an event, from the clock, the cells with the same start, those whose start is the event,
-- and the locations with the same start at the next event
module _ {G : Type 0} (S : Ops G) (e : Event) (clock : ℕ) (own fresh next : ℕ → G) where
  abbrev pub step : Cell → G
  step Accept = S.high
  step Reject = S.low
  step (Holds p) = S.grade (reading_of e p)
  step (Fails p) = S.opposite (S.grade (reading_of e p))
  step (And a b) = S.meet (own a) (own b)
  step (Or a b) = S.join (own a) (own b)
  step (Inside I) = test S (inside (interval_of I) clock)
  step (Outside I) = test S (not (inside (interval_of I) clock))
  step (AtMost u) = test S (within_upper (upper_of u) clock)
  step (Above u) = test S (not (within_upper (upper_of u) clock))
  step (Reset a) = fresh a
  step (Jump l) = next l

-- in memory gs, item a from the place `at` on
abbrev pub held_from : {G : Type 0} → Ops G → List G → ℕ → ℕ → G
held_from S gs at a = slice_index_or gs (at + a) S.low

-- in memory gs, the place of location l and event r in rows of n events
abbrev pub held : {G : Type 0} → Ops G → ℕ → List G → ℕ → ℕ → G
held S n gs l r = slice_index_or gs (l * n + (r - 1)) S.low

-- the grade of a cell at the turn's event, whose clock reads 0, from what stands in memory gs
abbrev pub graded_by : {G : Type 0} → Ops G → Event → Turn → List G → Cell → G
graded_by S e t gs c = step S e 0 (held_from S gs t.base) (held_from S gs t.base) (λ l. held S t.count gs l t.at) c

-- in a memory of n grades, the places that a cell names
abbrev pub Reach : Turn → ℕ → Cell → Type 0
Reach t n Accept = Unit {0}
Reach t n Reject = Unit {0}
Reach t n (Holds p) = Unit {0}
Reach t n (Fails p) = Unit {0}
Reach t n (And a b) = (t.base + a < n) × (t.base + b < n)
Reach t n (Or a b) = (t.base + a < n) × (t.base + b < n)
Reach t n (Inside I) = Unit {0}
Reach t n (Outside I) = Unit {0}
Reach t n (AtMost u) = Unit {0}
Reach t n (Above u) = Unit {0}
Reach t n (Reset a) = t.base + a < n
Reach t n (Jump l) = l * t.count + (t.at - 1) < n

-- the first k cells of the column are graded from what stands in memory gs
abbrev pub Graded : {G : Type 0} → Ops G → Event → Turn → ℕ → List G → Type 0
Graded S e t k gs = (a : ℕ) → a < k → held_from S gs t.base a ≡ graded_by S e t gs (slice_index_or t.automaton.cells.now a Accept)

-- new is old but for k places from `at` on
pub record Framed {G : Type 0} (S : Ops G) (at k : ℕ) (old new : List G) : Type 0 where
  pub below : (p : ℕ) → p < at → slice_index_or new p S.low ≡ slice_index_or old p S.low
  pub above : (p : ℕ) → at + k ≤ p → slice_index_or new p S.low ≡ slice_index_or old p S.low
