pub mod Inside
pub mod Rules
pub mod Around
pub mod Descends
