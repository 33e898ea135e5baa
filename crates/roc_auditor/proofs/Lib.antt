pub mod Vouching
pub mod Taking
pub mod Serving
pub mod Found
pub mod OneJudgement
pub mod OneVerdict
