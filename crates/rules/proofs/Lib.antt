pub mod Judged
pub mod Facts
pub mod Loads
