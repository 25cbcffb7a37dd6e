pub mod Sorted
pub mod Carrying
