pub mod Tree
pub mod Kids
