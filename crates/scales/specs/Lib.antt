pub mod Scales
pub mod Lattices
pub mod Plains
pub mod Doubts
pub mod Levels
pub mod Models
pub mod DoubtWords
