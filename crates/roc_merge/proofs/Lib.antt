pub mod Rows
pub mod Flows
pub mod Grouped
pub mod Firsts
pub mod Merged
pub mod Refusing
