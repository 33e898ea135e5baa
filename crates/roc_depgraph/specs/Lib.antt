pub mod Reach
pub mod Deps
pub mod Learnt
pub mod Closure
pub mod Visits
pub mod Inner
