pub mod Texts
pub mod Seams
pub mod Places
pub mod Spliced
pub mod Put
pub mod Cut
pub mod Within
