pub mod Inside
pub mod Parted
mod Kept
mod Halves
mod Runs
pub mod Same
pub mod Ranges
pub mod Limits
mod Ids
mod Standing
pub mod Staying
mod Ordering
pub mod Soundness
pub mod Copies
