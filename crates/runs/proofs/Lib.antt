pub mod Rules
pub mod Says
pub mod Fronts
pub mod Ends
