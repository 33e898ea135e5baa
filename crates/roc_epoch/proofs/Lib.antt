mod Fronts
mod Decided
pub mod Files
