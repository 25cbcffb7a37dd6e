pub mod HandedIn
pub mod Held
pub mod AsMachine
pub mod Tested
pub mod Opened
