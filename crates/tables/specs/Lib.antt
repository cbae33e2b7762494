pub mod Intervals
pub mod Sources
pub mod NormalTables
pub mod CellTables
