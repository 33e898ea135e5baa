pub mod FewSends
pub mod Plain
pub mod Steps
pub mod Telling
pub mod Room
pub mod Shown
