pub mod Node
pub mod Calls
