pub mod Within
pub mod Sample
