pub mod Converters
pub mod Lawful
pub mod Indented
