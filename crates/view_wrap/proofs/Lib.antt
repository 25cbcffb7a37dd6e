pub mod Meeting
pub mod Layering
pub mod Wrapping
pub mod Passes
pub mod Cutting
pub mod CutRows
pub mod Ranges
