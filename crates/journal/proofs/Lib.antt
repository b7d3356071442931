pub mod Played
pub mod Listed
pub mod Turns
pub mod Runs
pub mod Unique
