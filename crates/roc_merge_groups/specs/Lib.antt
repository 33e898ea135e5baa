pub mod Groups
pub mod Flow
pub mod Core
pub mod Grouping
pub mod Refusals
pub mod Accepted
pub mod Parts
pub mod Paths
