pub mod Rose
pub mod Fetched
pub mod Sent
pub mod PlannedCalls
pub mod HeldFiles
pub mod GatheredBytes
