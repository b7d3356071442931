pub mod Sums
pub mod Rules
pub mod Walk
pub mod Reading
pub mod Unique
pub mod Shown
