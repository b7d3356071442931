pub mod Laid
pub mod Frees
pub mod Head
pub mod Fresh
pub mod Opened
