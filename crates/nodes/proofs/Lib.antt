pub mod Heads
pub mod Rules
pub mod Laid
pub mod Copied
pub mod Put
pub mod Accepted
pub mod Fitted
pub mod Unique
