pub mod Marks
pub mod Values
pub mod ModelText
pub mod ViewText
pub mod Sample
pub mod SelectionText
pub mod Runs
