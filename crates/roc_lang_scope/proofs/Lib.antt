pub mod Names
pub mod Firsts
pub mod Bindings
pub mod Stops
