pub mod Places
pub mod Runs
pub mod Planned
pub mod Applied
pub mod Performed
pub mod Sample
pub mod Given
