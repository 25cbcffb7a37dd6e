pub mod Brought
pub mod Traced
pub mod Operates
