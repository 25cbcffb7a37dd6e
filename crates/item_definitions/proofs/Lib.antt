pub mod Paths
pub mod Order
pub mod Covers
pub mod Distinct
pub mod Fewest
pub mod Minimal
pub mod Sizes
