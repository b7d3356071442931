pub mod Given
pub mod Breaks
pub mod Leaves
pub mod Lists
pub mod Nodes
pub mod Children
