pub mod Guard
pub mod Looks
pub mod Lent
pub mod Removal
pub mod Promise
