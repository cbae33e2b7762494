pub mod Recording
pub mod Plays
pub mod Growth
pub mod Places
pub mod Fronts
pub mod Looks
pub mod Played
