pub mod Apart
pub mod Distinct
pub mod Parts
pub mod Lines
pub mod Named
pub mod Worded
