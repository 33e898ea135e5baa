pub mod Naming
pub mod Telling
pub mod Looping
pub mod Named
mod Reading
mod Booked
