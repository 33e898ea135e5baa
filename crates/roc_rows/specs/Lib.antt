pub mod Cells
pub mod Written
pub mod Store
pub mod Held
pub mod Versions
pub mod Codes
pub mod Inner
