pub mod Books
pub mod Closed
pub mod Opened
pub mod Calls
pub mod Replays
pub mod Onward
pub mod Answers
