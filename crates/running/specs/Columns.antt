-- The places of the memory that a run leaves.
pub use Rattle.evaluation.specs.Columns.{held_from, held}
