pub mod Rules
pub mod Topped
pub mod Parts
pub mod Rooted
