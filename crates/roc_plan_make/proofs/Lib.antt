mod Few
mod BuiltUp
mod Counted
mod Drawn
pub mod Grouped
mod Kept
