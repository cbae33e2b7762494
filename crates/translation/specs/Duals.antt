-- What the cells of a next and an until are, and those of their duals.
use Rattle.std.specs.Prelude.{ℕ, Bool, true, false}
use Rattle.semantics.specs.Forms.{Upper, Interval}
use Rattle.semantics.specs.Cells.{Cell, cell_and, cell_or, cell_in, cell_out, cell_at_most, cell_above}
use Rattle.translation.specs.declared.clauses.Duality.{Duality}
use Rattle.translation.specs.declared.clauses.Duality.TheVariants.{Primal, Dual}

abbrev pub inner_of : Duality → ℕ → ℕ → Cell
inner_of Primal a b = cell_and a b
inner_of Dual a b = cell_or a b

abbrev pub outer_of : Duality → ℕ → ℕ → Cell
outer_of Primal a b = cell_or a b
outer_of Dual a b = cell_and a b

abbrev pub window_of : Duality → Interval → Cell
window_of Primal I = cell_in I
window_of Dual I = cell_out I

abbrev pub deadline_of : Duality → Upper → Cell
deadline_of Primal u = cell_at_most u
deadline_of Dual u = cell_above u

abbrev pub final_of : Duality → Bool
final_of Primal = false
final_of Dual = true
