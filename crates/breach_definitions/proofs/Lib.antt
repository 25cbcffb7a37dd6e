pub mod Placed
pub mod Broken
pub mod AllButOne
