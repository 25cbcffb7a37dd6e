pub mod Cut
pub mod Layered
