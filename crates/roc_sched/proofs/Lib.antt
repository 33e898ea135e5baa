pub mod Cuts
pub mod Digits
pub mod Loops
pub mod Items
pub mod Texts
pub mod Fits
pub mod NameLemmas
