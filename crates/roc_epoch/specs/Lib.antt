-- The definitions that contracts cite
pub mod Grown
pub mod Growth
pub mod Files
