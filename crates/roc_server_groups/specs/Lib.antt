pub mod Entered
pub mod GroupsNow
pub mod Groups
pub mod Indexed
pub mod Inner
