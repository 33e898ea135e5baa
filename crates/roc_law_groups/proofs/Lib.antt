mod Commuting
mod Moving
pub mod Sorting
mod Stages
pub mod GroupRuns
mod Replies
mod Turned
mod Apart
mod Whole
pub mod InTurn
