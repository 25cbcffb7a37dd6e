pub mod Node
pub mod NodeCode
pub mod Layer
pub mod Row
pub mod Change
pub mod Place
pub mod Sample
