pub mod Entries
pub mod File
pub mod Rules
pub mod Answer
pub mod FaultText
pub mod Inner
