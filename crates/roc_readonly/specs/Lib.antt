pub mod Round
pub mod Fits
pub mod Inner
