pub mod Empty
pub mod NextIds
pub mod Carried
pub mod Led
pub mod Partway
pub mod SameCells
pub mod GoingBack
