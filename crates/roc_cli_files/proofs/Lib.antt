pub mod Reading
pub mod Listing
pub mod Loading
pub mod Logging
pub mod Growing
