pub mod Fits
pub mod Demand1
pub mod Demand2
pub mod Demand3
pub mod Bridge
pub mod Handed
pub mod Opening
pub mod Unique
