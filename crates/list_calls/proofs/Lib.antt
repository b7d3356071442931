pub mod Opened
pub mod Tests
pub mod Numbers
pub mod Unique
