pub mod Inner
pub mod Versions
