pub mod Numbers
pub mod Follow
pub mod Kept
pub mod Words
pub mod Named
pub mod Shift
pub mod Shown
