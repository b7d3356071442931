pub mod Kids
pub mod Slots
pub mod Rules
pub mod Opened
pub mod Unique
