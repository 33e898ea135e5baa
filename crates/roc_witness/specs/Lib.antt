pub mod Order
pub mod Shortest
pub mod Inner
