pub mod Lists
pub mod Seams
pub mod Counts
pub mod Sound
pub mod Within
pub mod Size
pub mod Frame
pub mod Leaves
