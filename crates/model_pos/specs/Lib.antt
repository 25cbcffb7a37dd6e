pub mod Shifts
pub mod Untouched
pub mod Below
