pub mod Scheme
pub mod SmallPlans
