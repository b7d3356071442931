pub mod Marks
pub mod Ends
pub mod Nodes
pub mod Children
pub mod Unique
