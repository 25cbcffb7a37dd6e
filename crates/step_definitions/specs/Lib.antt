pub mod Step
pub mod Sample
