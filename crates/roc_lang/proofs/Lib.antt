pub mod Limited
pub mod Digits
