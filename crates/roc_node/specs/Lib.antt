pub mod Judgement
pub mod Posting
pub mod Moves
pub mod NodeEvent
pub mod Counts
pub mod NodeLine
pub mod Losing
pub mod Setting
