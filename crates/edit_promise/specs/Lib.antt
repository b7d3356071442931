pub mod Edited
pub mod Turned
