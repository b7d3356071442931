pub mod Fields
pub mod Replay
pub mod Listing
