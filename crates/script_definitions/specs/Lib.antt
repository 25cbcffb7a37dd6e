pub mod Edits
pub mod Places
pub mod Request
pub mod Written
