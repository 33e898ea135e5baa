pub mod Own
pub mod Fold
pub mod Records
pub mod Turns
pub mod Interleaved
pub mod WorldOf
pub mod Logs
