pub mod Verdict
pub mod Taken
pub mod VerdictText
pub mod Inner
