-- Tables that can be run.
use Rattle.std.proofs.Common.{◌≡◌, ℕ, ◌<◌, ◌≤◌, List, length, get_or}
use Rattle.semantics.specs.Automata.{Clause, accept, reject, holds, fails, and, or, in_interval, out_of_interval, at_most, above, reset, jump}
use Rattle.semantics.specs.Cells as meaning
use Rattle.semantics.specs.Cells.{
  cell_accept,
  cell_reject,
  cell_holds,
  cell_fails,
  cell_and,
  cell_or,
  cell_in,
  cell_out,
  cell_at_most,
  cell_above,
  cell_reset,
  cell_jump,
  Below,
  clause_of,
}
use Rattle.tables.specs.declared.cell.Cell.{Cell}
use Rattle.tables.specs.declared.cell.Cell.TheVariants.{Accept}
use Rattle.tables.specs.declared.cell.Location.{Location}
use Rattle.tables.specs.CellTables.{cell_of}
use Rattle.evaluation.specs.Rows.{no_location}
use Rattle.evaluation.specs.Clauses.{clauses}

-- with its own start, a clause jumps to location l alone
abbrev pub Homes : ℕ → Clause → Type 0
Homes l accept = Unit {0}
Homes l reject = Unit {0}
Homes l (holds p) = Unit {0}
Homes l (fails p) = Unit {0}
Homes l (and c d) = Homes l c × Homes l d
Homes l (or c d) = Homes l c × Homes l d
Homes l (in_interval I) = Unit {0}
Homes l (out_of_interval I) = Unit {0}
Homes l (at_most u) = Unit {0}
Homes l (above u) = Unit {0}
Homes l (reset c) = Unit {0}
Homes l (jump m) = m ≡ l

-- a cell jumps only behind location 0, to which nothing jumps
abbrev pub Onward : meaning.Cell → Type 0
Onward cell_accept = Unit {0}
Onward cell_reject = Unit {0}
Onward (cell_holds p) = Unit {0}
Onward (cell_fails p) = Unit {0}
Onward (cell_and x y) = Unit {0}
Onward (cell_or x y) = Unit {0}
Onward (cell_in I) = Unit {0}
Onward (cell_out I) = Unit {0}
Onward (cell_at_most u) = Unit {0}
Onward (cell_above u) = Unit {0}
Onward (cell_reset x) = Unit {0}
Onward (cell_jump l) = 0 < l

pub record Sound (cells : List Cell) (locations : List Location) : Type 0 where
  -- each cell names only earlier cells, and locations that there are
  pub earlier : (k : ℕ) → k < length cells → Below (length locations) k (cell_of (get_or cells k Accept))
  -- and jumps only behind location 0
  pub onward : (k : ℕ) → k < length cells → Onward (cell_of (get_or cells k Accept))
  -- and so has the clause that it names
  pub reads : (k : ℕ) → k < length cells → get_or (clauses cells) k reject ≡ clause_of (clauses cells) (cell_of (get_or cells k Accept))
  -- each location's root is a cell
  pub rooted : (l : ℕ) → l < length locations → (get_or locations l no_location).root < length cells
  -- whose clause, with its own start, jumps to that location alone
  pub homes : (l : ℕ) → l < length locations → Homes l (get_or (clauses cells) (get_or locations l no_location).root reject)
  -- there is a location 0
  pub initial : 0 < length locations
  pub few_locations : length locations ≤ 65536
