pub mod Found
pub mod Fronts
pub mod Notes
