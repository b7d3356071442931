pub mod Over
pub mod Big
