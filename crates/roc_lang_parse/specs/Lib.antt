pub mod Lexed
pub mod Fault
pub mod Answer
pub mod Stuck
pub mod Parts
pub mod Reading
pub mod Scanning
pub mod Inner
