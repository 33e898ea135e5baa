pub mod Grouped
pub mod Inner
