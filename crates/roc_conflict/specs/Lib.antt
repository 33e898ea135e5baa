pub mod Immediate
pub mod Classes
pub mod Contended
pub mod Columns
pub mod Inner
