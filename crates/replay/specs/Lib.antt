-- The definitions that the contracts of this crate cite.
pub mod Answer
pub mod Leaves
pub mod Turns
