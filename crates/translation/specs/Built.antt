-- What is written so far of an automaton.
use Rattle.std.specs.Prelude.{ℕ, List}
use Rattle.semantics.specs.Cells.{Cell, Entry}

-- the root of each normal form is the number of its last cell
pub record Built : Type 0 where
  pub cells : List Cell
  pub entries : List Entry
  pub roots : List ℕ
