pub mod Grammar
pub mod Runs
