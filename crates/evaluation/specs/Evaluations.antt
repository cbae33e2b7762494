-- What an evaluation of tables leaves in memory.
use Rattle.std.specs.Prelude.{◌≡◌, ℕ, ◌+◌, ◌*◌, ◌<◌, ◌≤◌, List, length, slice_index_or}
use Rattle.scales.specs.Scales.{Ops}
use Rattle.logs.specs.declared.event.Event.{Event}
use Rattle.tables.specs.declared.cell.Cell.{Cell}
use Rattle.tables.specs.declared.cell.Location.{Location}
use Rattle.evaluation.specs.declared.boundary.Boundary.{Boundary}
use Rattle.evaluation.specs.Boundaries.{after}
use Rattle.evaluation.specs.Columns.{held_from, held}
use Rattle.evaluation.specs.Clauses.{automaton_of}
use Rattle.evaluation.specs.Passes.{worth}

-- how many grades are needed: a row of each location, and two columns of all cells
abbrev pub needed : List Event → List Cell → List Location → ℕ
needed es cells locations = length locations * length es + 2 * length cells

module _ {G : Type 0} (S : Ops G) (es : List Event) (cells : List Cell) (locations : List Location) where
  -- the value of location l with start s at event i, over the boundary b
  abbrev pub value_over : Boundary → ℕ → ℕ → ℕ → G
  value_over b = worth S es cells locations (after S (automaton_of cells locations) b)

  -- place r of location l's row is its value at event r with start r, the columns are lowest, and the rest is as it was
  pub record Evaluated (b : Boundary) (old new : List G) : Type 0 where
    pub rows : (l r : ℕ) → l < length locations → 0 < r → r ≤ length es → held S (length es) new l r ≡ value_over b l r r
    pub columns : (a : ℕ) → a < 2 * length cells → held_from S new (length locations * length es) a ≡ S.low
    pub rest : (p : ℕ) → needed es cells locations ≤ p → slice_index_or new p S.low ≡ slice_index_or old p S.low
