pub mod Items
pub mod LineParts
pub mod LogLemmas
pub mod Numerals
pub mod Spelled
pub mod Written
mod Ranges
mod Appended
