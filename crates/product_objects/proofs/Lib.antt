pub mod Ascii
pub mod Indents
