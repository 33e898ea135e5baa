-- What stands here is of private functions alone, or is a law that a type needs
pub mod Shown
pub mod Parts
pub mod Starts
pub mod Taught
pub mod Settled
pub mod Held
pub mod Answering
pub mod AtOnce
