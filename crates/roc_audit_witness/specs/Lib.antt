pub mod Submissions
pub mod Inner
