pub mod History
pub mod Order
pub mod Witness
pub mod Woven
pub mod Inner
