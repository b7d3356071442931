pub mod Side
pub mod Tried
