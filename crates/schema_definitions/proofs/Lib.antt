pub mod Members
pub mod Steps
pub mod Reach
pub mod Pairs
pub mod Least
pub mod Checked
pub mod Known
