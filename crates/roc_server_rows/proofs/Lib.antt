pub mod Turns
pub mod Alive
mod Made
mod Told
pub mod Ended
pub mod Looked
mod Named
mod Learnt
mod Untold
mod LeastOfRows
pub mod Waits
mod Walked
pub mod Excepted
pub mod ExceptedMarks
pub mod InQuestion
pub mod OpenRows
pub mod DecidedRows
pub mod KeptMarks
pub mod EndedRows
