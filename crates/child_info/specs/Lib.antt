pub mod Kin
pub mod Leaves
pub mod Renewed
pub mod Calls
