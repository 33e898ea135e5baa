pub mod Views
pub mod Behind
pub mod Looks
pub mod Answering
pub mod Inner
