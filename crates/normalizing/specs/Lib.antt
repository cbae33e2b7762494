pub mod Shapes
pub mod NormalWritten
pub mod Duals
