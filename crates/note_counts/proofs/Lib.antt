pub mod InLeaf
pub mod InNote
pub mod Rules
pub mod Several
