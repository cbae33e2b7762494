pub mod Decoding
pub mod Tested
pub mod Onto
pub mod Written
