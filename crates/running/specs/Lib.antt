pub mod Columns
pub mod Runs
pub mod Tabulations
pub mod RuleRuns
