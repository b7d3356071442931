pub mod Slot
pub mod Calls
