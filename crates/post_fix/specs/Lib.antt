pub mod Listed
pub mod Turns
pub mod Walked
pub mod Dropped
pub mod Nearest
