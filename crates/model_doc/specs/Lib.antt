pub mod Code
pub mod Held
pub mod Records
pub mod Conditions
pub mod Batched
pub mod Parts
