pub mod Item
pub mod Children
pub mod Position
pub mod FlatParts
pub mod Shift
pub mod Sample
pub mod ItemCode
