pub mod Common
pub mod Places
pub mod Ordered
pub mod Digits
pub mod Lookups
pub mod Scalars
