pub mod Layers
pub mod Rule
pub mod Joins
pub mod Changes
pub mod Counting
