pub mod Own
pub mod Part
pub mod Table
pub mod Laid
pub mod Written
pub mod Fields
