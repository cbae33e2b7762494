pub mod Making
pub mod Standing
