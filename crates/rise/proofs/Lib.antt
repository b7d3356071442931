pub mod Rules
pub mod Lists
pub mod Loose
pub mod Neighbours
pub mod Rising
pub mod Rises
