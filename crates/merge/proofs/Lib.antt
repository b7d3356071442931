pub mod Joins
pub mod JoinedLists
pub mod Settled
pub mod Ready
pub mod Merged
pub mod Texts
pub mod Unique
pub mod Parts
