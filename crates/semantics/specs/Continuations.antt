-- How a list of events may go on.
use Rattle.std.specs.Prelude.{◌≡◌, ℕ, ◌<◌, ◌≤◌, List, ◌++◌, length, slice_index_or}
use Rattle.logs.specs.declared.event.Event.{Event}
use Rattle.logs.specs.Logs.{none, Lawful}

-- the times of events never fall
abbrev pub Timely : List Event → Type 0
Timely es = (i j : ℕ) → i ≤ j → j < length es → (slice_index_or es i none).time ≤ (slice_index_or es j none).time

-- the same events, and then none or more
pub record Continues (es whole : List Event) : Type 0 where
  pub more : List Event
  pub appended : whole ≡ es ++ more

-- a continuation whose times never fall, however long
pub record TimelyContinuation (es whole : List Event) : Type 0 where
  pub continues : Continues es whole
  pub timely : Timely whole

-- a continuation that a log may have
pub record LawfulContinuation (es whole : List Event) : Type 0 where
  pub continues : Continues es whole
  pub lawful : Lawful whole
