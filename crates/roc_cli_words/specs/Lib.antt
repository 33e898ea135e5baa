pub mod Program
pub mod Values
pub mod Commands
pub mod Answer
pub mod Worded
pub mod FaultText
pub mod Inner
