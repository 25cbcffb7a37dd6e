pub mod Tables
pub mod Bounded
pub mod Looking
