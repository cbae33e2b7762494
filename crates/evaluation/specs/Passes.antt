-- What stands in memory while an automaton is run from the last event of a log to the first.
use Rattle.std.specs.Prelude.{◌≡◌, ℕ, suc, ◌+◌, ◌-◌, ◌*◌, ◌<◌, ◌≤◌, ◌⊎◌, List, length, get_or, slice_index, slice_index_or}
use Rattle.scales.specs.Scales.{Ops}
use Rattle.logs.specs.declared.event.Event.{Event}
use Rattle.logs.specs.Logs.{event_at}
use Rattle.semantics.specs.Words.{word}
use Rattle.semantics.specs.Forms.{Upper, none}
use Rattle.semantics.specs.Automata.{Clause, reject}
use Rattle.semantics.specs.Values.{clause_value, value}
use Rattle.semantics.specs.Continuations.{Timely}
use Rattle.tables.specs.declared.cell.Cell.{Cell}
use Rattle.tables.specs.declared.cell.Location.{Location}
use Rattle.tables.specs.Intervals.{upper_of}
use Rattle.evaluation.specs.declared.turn.Turn.{Turn}
use Rattle.evaluation.specs.declared.segments.Segment.{Segment}
use Rattle.evaluation.specs.Columns.{held_from, held, Framed}
use Rattle.evaluation.specs.Rows.{no_location}
use Rattle.evaluation.specs.Deadlines.{deadline}
use Rattle.evaluation.specs.Segments.{own_value, horizon}
use Rattle.evaluation.specs.Clauses.{clauses, automaton_of}

-- what is taken for the deadline of location l at the turn's event: none, or, before the last event, its root's
abbrev pub Deadline : Turn → ℕ → Upper → Type 0
Deadline t l u =
    let location = get_or t.automaton.locations.now l no_location in
    (u ≡ none) ⊎ ((t.at < t.count) × (u ≡ deadline location.is_final (slice_index_or (clauses t.automaton.cells.now) location.root reject)))

-- n events and their times, which never fall
pub record Timed (es : List Event) (n : ℕ) (times : List ℕ) : Type 0 where
  pub counted : n ≡ length es
  pub told : (r : ℕ) → 0 < r → r ≤ n → slice_index times (r - 1) ≡ (event_at es r).time
  pub timely : Timely es

module _ {G : Type 0} (S : Ops G) (es : List Event) (cells : List Cell) (locations : List Location) where
  -- the value of location l with start s at event i, over the boundary `after`
  unfoldable pub worth : (ℕ → ℕ → G) → ℕ → ℕ → ℕ → G
  worth after l s i = value S (word S es) (automaton_of cells locations) after l s i

  -- the value of cell k's clause with start s at event i
  unfoldable pub cell_grade : (ℕ → ℕ → G) → ℕ → ℕ → ℕ → G
  cell_grade after s i k = clause_value S (word S es) (λ l r. worth after l r (suc i)) s i (slice_index_or (clauses cells) k reject)

  -- the value of a clause whose start is event i
  abbrev pub fresh_value : (ℕ → ℕ → G) → ℕ → Clause → G
  fresh_value after i c = clause_value S (word S es) (λ l r. worth after l r (suc i)) i i c

  -- from the place `at` on, the first k cells with start s at event i
  abbrev pub Column : (ℕ → ℕ → G) → ℕ → ℕ → ℕ → ℕ → List G → Type 0
  Column after at s i k gs = (a : ℕ) → a < k → held_from S gs at a ≡ cell_grade after s i a

  -- before event i's turn has come, in rows of n events: a place whose own event is i or later has the value there,
  -- and any other, but for those of location 0, to which nothing jumps, the value at event i
  pub record Settled (after : ℕ → ℕ → G) (n i : ℕ) (gs : List G) : Type 0 where
    pub own : (l r : ℕ) → l < length locations → 0 < r → i ≤ r → r ≤ n → held S n gs l r ≡ worth after l r r
    pub ahead : (l r : ℕ) → 0 < l → l < length locations → 0 < r → r < i → r ≤ n → held S n gs l r ≡ worth after l r i

module _ {G : Type 0} (S : Ops G) (es : List Event) (after : ℕ → ℕ → G) (t : Turn) where
  -- the column of the turn's event stands
  abbrev pub Fresh : List G → Type 0
  Fresh gs = Column S es t.automaton.cells.now t.automaton.locations.now after t.base t.at t.at (length t.automaton.cells.now) gs

  -- row l has the values at event i of the starts before the turn's event
  abbrev pub RowAt : ℕ → ℕ → List G → Type 0
  RowAt l i gs = (r : ℕ) → 0 < r → r < t.at → held S t.count gs l r ≡ worth S es t.automaton.cells.now t.automaton.locations.now after l r i

-- what a cell, a start, the starts of a location, those of all locations and an event come to, whatever the log and the boundary

module _ {G : Type 0} (S : Ops G) (t : Turn) where
  -- x is the value of cell k with a start before the turn's event, by the clock, where its location has the value `next` at the next event
  abbrev pub Valued : ℕ → G → List G → ℕ → G → Type 0
  Valued clock next gs k x =
      (es : List Event) (after : ℕ → ℕ → G) → Fresh S es after t gs →
      x ≡ own_value S (fresh_value S es t.automaton.cells.now t.automaton.locations.now after t.at) clock next (slice_index_or (clauses t.automaton.cells.now) k reject)

  -- from its clock up to its horizon, a segment has the value of cell k at the lowest and at the highest grade
  pub record Segmented (gs : List G) (k : ℕ) (g : Segment G) : Type 0 where
    pub ends : upper_of g.horizon ≡ horizon g.since (slice_index_or (clauses t.automaton.cells.now) k reject)
    pub lowest : Valued g.since S.low gs k g.low
    pub highest : Valued g.since S.high gs k g.high

  -- the row of location l goes on to the turn's event, and all else stays
  pub record RowDone (l : ℕ) (old new : List G) : Type 0 where
    pub done :
        (es : List Event) (after : ℕ → ℕ → G) → Timed es t.count t.times.now → Fresh S es after t old →
        RowAt S es after t l (suc t.at) old → RowAt S es after t l t.at new
    pub framed : Framed S (l * t.count) (t.at - 1) old new

  -- the rows of locations 1 up to j go on to the turn's event; the places of its own start and of later ones stay, and the memory from row j on
  pub record RowsDone (j : ℕ) (old new : List G) : Type 0 where
    pub done :
        (es : List Event) (after : ℕ → ℕ → G) → Timed es t.count t.times.now → Fresh S es after t old →
        ((l : ℕ) → 0 < l → l < length t.automaton.locations.now → RowAt S es after t l (suc t.at) old) →
        (l : ℕ) → 0 < l → l < j → RowAt S es after t l t.at new
    pub kept : (l r : ℕ) → l < length t.automaton.locations.now → 0 < r → t.at ≤ r → r ≤ t.count → held S t.count new l r ≡ held S t.count old l r
    pub behind : (p : ℕ) → j * t.count ≤ p → slice_index_or new p S.low ≡ slice_index_or old p S.low

-- the memory behind the rows and a column of so many cells at base is as it was
abbrev pub Rest : {G : Type 0} → Ops G → ℕ → ℕ → List G → List G → Type 0
Rest S base cells old new = (p : ℕ) → base + cells ≤ p → slice_index_or new p S.low ≡ slice_index_or old p S.low

module _ {G : Type 0} (S : Ops G) (es : List Event) where
  -- the turn's event is done
  abbrev pub EventDone : Turn → List G → List G → Type 0
  EventDone t old new =
      (after : ℕ → ℕ → G) → Settled S es t.automaton.cells.now t.automaton.locations.now after t.count (suc t.at) old →
      Settled S es t.automaton.cells.now t.automaton.locations.now after t.count t.at new

  -- all events behind event i are done
  abbrev pub EventsDone : List Cell → List Location → ℕ → ℕ → List G → List G → Type 0
  EventsDone cells locations n i old new =
      (after : ℕ → ℕ → G) → Settled S es cells locations after n (suc n) old → Settled S es cells locations after n (suc i) new
