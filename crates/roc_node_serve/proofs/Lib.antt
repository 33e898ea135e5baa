mod Ending
mod Journals
mod Logs
mod Opened
pub mod Writing
mod Served
mod Servers
mod Shards
mod Turning
