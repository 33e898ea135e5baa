pub mod Answers
pub mod Faults
pub mod Format
pub mod Inner
pub mod Laws
pub mod Reading
pub mod Settled
