pub mod Meant
pub mod Limits
pub mod Effects
