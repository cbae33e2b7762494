pub mod Tables
pub mod Reading
