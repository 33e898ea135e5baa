pub mod Lines
pub mod Checked
pub mod Inner
