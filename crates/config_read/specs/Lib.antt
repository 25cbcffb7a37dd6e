pub mod FileForm
pub mod Ordered
pub mod Refused
