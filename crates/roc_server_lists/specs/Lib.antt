pub mod ListsNow
pub mod Inner
