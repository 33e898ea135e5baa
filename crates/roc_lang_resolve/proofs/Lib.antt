pub mod Bindings
pub mod Counts
pub mod Scoped
pub mod Viewed
pub mod Numbered
pub mod Formed
pub mod InitKeys
