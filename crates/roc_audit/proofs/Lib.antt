pub mod Histories
pub mod Splits
pub mod Once
pub mod Replies
pub mod Noted
pub mod Weave
pub mod ViewRuns
pub mod WovenWitness
