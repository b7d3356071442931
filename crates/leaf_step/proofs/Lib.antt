pub mod Leaves
pub mod Rules
pub mod Kept
pub mod Told
pub mod Fits
pub mod Splits
pub mod Laws
