pub mod Markers
pub mod Selection
pub mod Document
pub mod Sound
pub mod Staying
pub mod Sample
