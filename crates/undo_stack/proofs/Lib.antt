pub mod Moments
pub mod GoingOn
pub mod Holding
pub mod Happening
