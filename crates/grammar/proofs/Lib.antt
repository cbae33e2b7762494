pub mod Fronts
pub mod Unique
pub mod Decimals
pub mod Absences
pub mod Lengths
