pub mod Unique
pub mod Rules
pub mod Chains
pub mod Laws
pub mod Keeps
