pub mod Turns
pub mod Counted
pub mod Renewing
pub mod Rules
pub mod Found
pub mod TextRead
