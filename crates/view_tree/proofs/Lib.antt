pub mod Listed
pub mod Steps
pub mod Puts
pub mod Counts
pub mod Calls
