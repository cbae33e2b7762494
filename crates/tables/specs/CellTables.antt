-- The cells and locations of the code as those of the translation.
use Rattle.std.specs.Prelude.{List, map}
use Rattle.semantics.specs.Cells as meaning
use Rattle.tables.specs.Intervals.{upper_of, interval_of}
use Rattle.tables.specs.declared.cell.Cell.{Cell}
use Rattle.tables.specs.declared.cell.Cell.TheVariants.{Accept, Reject, Holds, Fails, And, Or, Inside, Outside, AtMost, Above, Reset, Jump}
use Rattle.tables.specs.declared.cell.Location.{Location}

abbrev pub cell_of : Cell → meaning.Cell
cell_of Accept = meaning.Cell.cell_accept
cell_of Reject = meaning.Cell.cell_reject
cell_of (Holds p) = meaning.Cell.cell_holds p
cell_of (Fails p) = meaning.Cell.cell_fails p
cell_of (And a b) = meaning.Cell.cell_and a b
cell_of (Or a b) = meaning.Cell.cell_or a b
cell_of (Inside I) = meaning.Cell.cell_in (interval_of I)
cell_of (Outside I) = meaning.Cell.cell_out (interval_of I)
cell_of (AtMost u) = meaning.Cell.cell_at_most (upper_of u)
cell_of (Above u) = meaning.Cell.cell_above (upper_of u)
cell_of (Reset a) = meaning.Cell.cell_reset a
cell_of (Jump l) = meaning.Cell.cell_jump l

abbrev pub entry_of : Location → meaning.Entry
entry_of l = record { root = l.root; final = l.is_final }

abbrev pub cells_of : List Cell → List meaning.Cell
cells_of = map cell_of

abbrev pub entries_of : List Location → List meaning.Entry
entries_of = map entry_of
