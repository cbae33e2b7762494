-- The rows of memory: one for each location, with a place for each event.
use Rattle.std.specs.Prelude.{◌≡◌, ℕ, ◌*◌, ◌<◌, ◌≤◌, false, ◌≢◌, List, length, get_or, slice_index_or}
use Rattle.scales.specs.Scales.{Ops}
use Rattle.tables.specs.declared.cell.Location.{Location}
use Rattle.evaluation.specs.declared.boundary.Boundary.{Boundary}
use Rattle.evaluation.specs.declared.turn.Turn.{Turn}
use Rattle.evaluation.specs.Boundaries.{behind}
use Rattle.evaluation.specs.Columns.{held_from, held}

-- what stands where there is no location
abbrev pub no_location : Location
no_location = record { root = 0; is_final = false }

-- new is old but for the places of the start of the first j locations, which have the grades of their roots
pub record Moved {G : Type 0} (S : Ops G) (t : Turn) (j : ℕ) (old new : List G) : Type 0 where
  pub wrote : (l : ℕ) → l < j → held S t.count new l t.at ≡ held_from S old t.base (get_or t.automaton.locations.now l no_location).root
  pub others : (l r : ℕ) → l < length t.automaton.locations.now → 0 < r → r ≤ t.count → r ≢ t.at → held S t.count new l r ≡ held S t.count old l r
  pub beyond : (p : ℕ) → length t.automaton.locations.now * t.count ≤ p → slice_index_or new p S.low ≡ slice_index_or old p S.low

-- the rows of the first j locations have what stands behind the last event, and what stands after them is as it was
pub record Begun {G : Type 0} (S : Ops G) (b : Boundary) (locations : List Location) (n j : ℕ) (old new : List G) : Type 0 where
  pub rows : (l r : ℕ) → l < j → 0 < r → r ≤ n → held S n new l r ≡ behind S b (get_or locations l no_location).is_final
  pub above : (p : ℕ) → j * n ≤ p → slice_index_or new p S.low ≡ slice_index_or old p S.low
