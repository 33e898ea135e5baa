pub mod Elements
mod Unique
pub mod Forward
mod Fused
pub mod FusedClasses
pub mod Cores
mod Circles
pub mod Accepting
pub mod Parts
pub mod Paths
