pub mod Ends
pub mod Auditing
pub mod Faultless
pub mod Texts
