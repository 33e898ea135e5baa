pub mod Ranges
pub mod Sends
mod Missing
mod Replies
