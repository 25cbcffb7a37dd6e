pub mod Name
pub mod Text
pub mod Entries
pub mod Priority
