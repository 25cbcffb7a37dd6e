pub mod Kinds
pub mod NodeList
pub mod Parts
pub mod Deepest
pub mod Falls
pub mod Reading
pub mod Changes
pub mod ViewCode
