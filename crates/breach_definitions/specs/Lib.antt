pub mod Breach
pub mod Spots
pub mod Obeys
pub mod Sample
