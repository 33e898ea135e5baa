-- The definitions that contracts cite
pub mod Server
pub mod Coord
pub mod Fits
pub mod Inner
