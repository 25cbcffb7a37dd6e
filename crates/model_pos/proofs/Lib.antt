pub mod Rules
pub mod RunEnds
pub mod Pushed
