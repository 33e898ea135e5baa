pub mod Names
pub mod Replies
pub mod SerialRuns
pub mod Replied
pub mod Reading
