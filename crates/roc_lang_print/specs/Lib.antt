pub mod Canonical
pub mod UpToLines
