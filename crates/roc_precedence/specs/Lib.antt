pub mod Pairs
pub mod Orders
pub mod Cycles
pub mod Inner
