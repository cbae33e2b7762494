-- The automaton of a normal form, as tables.
use Rattle.std.specs.Prelude.{◌≡◌}
use Rattle.semantics.specs.Normals.{Normal}
use Rattle.semantics.specs.Cells.{table, entries}
use Rattle.tables.specs.CellTables.{cells_of, entries_of}
use Rattle.translation.specs.declared.automaton.Tables.{Tables}

-- the cells and the locations are those of the published translation
pub record Translated (f : Normal) (A : Tables) : Type 0 where
  pub cells : cells_of A.cells ≡ table f
  pub locations : entries_of A.locations ≡ entries f
