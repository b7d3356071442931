pub mod Made
pub mod Acts
pub mod Became
pub mod Grown
pub mod Held
