pub mod Ends
pub mod MarkLines
