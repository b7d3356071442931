pub mod Lists
pub mod Rules
pub mod Holding
pub mod Halves
pub mod Unique
pub mod Shown
