pub mod Judging
pub mod Rules
pub mod Loading
pub mod Meaning
