pub mod Level
pub mod Operation
pub mod After
pub mod Back
pub mod Reversed
pub mod Sample
