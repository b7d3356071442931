pub mod Parts
pub mod Front
