pub mod Digits
pub mod Shapes
pub mod Turns
pub mod Placing
pub mod Joining
pub mod Adding
