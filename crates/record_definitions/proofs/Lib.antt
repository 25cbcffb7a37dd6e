pub mod Brings
pub mod Orders
pub mod Leading
pub mod Tracing
pub mod Turning
