-- What stands here is of private functions alone, or is a law that a type needs
pub mod Changes
pub mod Covered
pub mod Keyed
pub mod Looks
pub mod Restored
pub mod Runs
pub mod Tried
