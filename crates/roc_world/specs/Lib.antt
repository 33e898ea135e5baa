pub mod Reads
pub mod Inner
