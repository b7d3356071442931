pub mod Tree
pub mod Shape
pub mod Beside
pub mod Edit
pub mod Mark
pub mod Promise
pub mod Calls
pub mod MarkCalls
