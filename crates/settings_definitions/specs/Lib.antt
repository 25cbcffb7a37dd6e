pub mod Faults
pub mod SchemaForm
pub mod FixerForm
pub mod FixerRows
pub mod FixerNames
pub mod Settings
pub mod Texts
pub mod Converting
