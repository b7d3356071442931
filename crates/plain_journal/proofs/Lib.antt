pub mod Framing
pub mod Asked
pub mod Replay
pub mod Listed
pub mod Shown
