pub mod Lengths
pub mod Lent
pub mod Alone
pub mod Extending
