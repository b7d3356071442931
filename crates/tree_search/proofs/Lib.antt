pub mod Seams
pub mod Among
pub mod Stops
pub mod Nested
pub mod Rules
pub mod Way
pub mod Parted
pub mod Unique
