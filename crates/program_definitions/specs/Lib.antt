pub mod Product
pub mod Fixers
pub mod Converters
pub mod Selecting
pub mod Machine
pub mod Task
pub mod Output
pub mod Sample
