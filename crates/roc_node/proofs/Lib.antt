mod Texts
pub mod Moving
mod Sets
