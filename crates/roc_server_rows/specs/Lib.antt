pub mod Rows
pub mod Changes
pub mod Marks
pub mod Except
pub mod LinksBut
pub mod Inner
