pub mod Fault
pub mod FaultText
pub mod Inner
