pub mod Marks
pub mod Rules
pub mod Refusals
pub mod Accepted
pub mod Minus
pub mod Nothing
pub mod Fits
