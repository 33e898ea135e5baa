pub mod Says
pub mod Requests
pub mod Held
pub mod Fault
pub mod Input
pub mod Listed
pub mod NodeNames
pub mod Inner
