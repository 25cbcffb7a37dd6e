pub mod Bindings
pub mod Codes
pub mod Keys
pub mod Mapped
pub mod Parts
pub mod Reading
pub mod Seeking
