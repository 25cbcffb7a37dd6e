pub mod Turn
pub mod Gifts
pub mod Placing
pub mod Listed
