pub mod Json
pub mod OtherFields
pub mod Offsets
