-- The definitions that contracts cite
pub mod Setting
pub mod Judgement
pub mod Posting
