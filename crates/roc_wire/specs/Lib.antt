pub mod Spelling
pub mod Fits
pub mod Fault
pub mod Reading
pub mod Laws
