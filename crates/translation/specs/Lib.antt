pub mod Built
pub mod Building
pub mod Translating
pub mod Duals
