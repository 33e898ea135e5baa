pub mod Lacks
pub mod Learning
pub mod Released
pub mod Inner
