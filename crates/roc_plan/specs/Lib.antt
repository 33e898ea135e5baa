pub mod Groups
pub mod Accepted
pub mod Turns
pub mod Outlines
pub mod Sized
pub mod Inner
