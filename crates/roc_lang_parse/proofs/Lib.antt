pub mod Bytes
pub mod Exact
pub mod Choices
pub mod Several
pub mod Terminals
pub mod Separated
pub mod Wider
pub mod Depths
pub mod Loops
pub mod Atoms
pub mod Atom
pub mod Sums
pub mod Rooms
pub mod Statements
pub mod Procedures
pub mod Texts
pub mod Turns
pub mod Steps
pub mod Places
pub mod Further
pub mod Answers
pub mod Runs
pub mod Scans
pub mod Unique
mod Counted
mod Spared
mod Alike
mod Ids
