pub mod Sound
pub mod OfPlan
mod Whole
mod Deferred
mod SmallPlans
