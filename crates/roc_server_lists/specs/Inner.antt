-- What stands here is of private functions alone, or is a law that a type needs
pub mod Finding
pub mod Keeping
pub mod Parts
pub mod Trials
