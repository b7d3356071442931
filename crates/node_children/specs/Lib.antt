pub mod Kids
pub mod Calls
