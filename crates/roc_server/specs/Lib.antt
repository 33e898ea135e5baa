pub mod Ahead
pub mod State
pub mod Inner
