pub mod CellLaws
pub mod Stored
pub mod Listed
pub mod Stores
pub mod Counts
pub mod Undone
