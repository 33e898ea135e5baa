pub mod Drains
pub mod Waits
