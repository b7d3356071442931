pub mod Rules
pub mod Parts
pub mod Texts
pub mod Checks
pub mod Counts
pub mod Shown
pub mod Full
