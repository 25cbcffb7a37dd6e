pub mod Form
pub mod OtherFields
pub mod Rows
