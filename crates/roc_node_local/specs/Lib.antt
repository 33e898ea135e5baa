pub mod Stops
pub mod Children
pub mod Local
