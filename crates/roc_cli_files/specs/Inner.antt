pub mod Requests
pub mod Input
pub mod Listed
pub mod Shards
pub mod Logs
pub mod Grown
pub mod First
