pub mod Rules
pub mod Parts
pub mod InTurn
pub mod Joined
pub mod Apart
