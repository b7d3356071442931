pub mod Rules
pub mod Beside
pub mod Written
pub mod Runs
pub mod Moves
