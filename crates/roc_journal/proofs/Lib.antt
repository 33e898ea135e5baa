mod Appending
pub mod Beginnings
mod Bounds
mod Datagrams
mod Endings
pub mod Ends
pub mod Fronts
mod Heads
mod Making
mod Nexts
mod Records
mod TwoCalls
mod Unwritten
pub mod Walks
mod Whichever
