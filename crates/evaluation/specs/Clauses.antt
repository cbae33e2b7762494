-- The clauses and the automaton that tables stand for.
use Rattle.std.specs.Prelude.{List, []}
use Rattle.semantics.specs.Automata as automata
use Rattle.semantics.specs.Automata.{Clause}
use Rattle.semantics.specs.Cells.{clauses_onto, decoded}
use Rattle.tables.specs.declared.cell.Cell.{Cell}
use Rattle.tables.specs.declared.cell.Location.{Location}
use Rattle.tables.specs.CellTables.{cells_of, entries_of}

-- the clauses of the cells, in order
unfoldable pub clauses : List Cell → List Clause
clauses cells = clauses_onto [] (cells_of cells)

-- the automaton that the tables stand for
unfoldable pub automaton_of : List Cell → List Location → List automata.Location
automaton_of cells locations = decoded (cells_of cells) (entries_of locations)
