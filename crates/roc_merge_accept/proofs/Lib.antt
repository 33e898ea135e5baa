pub mod Uses
mod Each
mod Circling
pub mod Parting
pub mod Tested
