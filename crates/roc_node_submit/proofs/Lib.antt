pub mod Closing
mod Booked
mod Logged
pub mod Coords
pub mod Counts
pub mod Keeping
pub mod KeptSteps
pub mod Runs
pub mod CoordNodes
mod Submitted
mod Told
mod Writing
