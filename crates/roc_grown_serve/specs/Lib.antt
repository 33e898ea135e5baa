-- The definitions that contracts cite
pub mod GrownRun
pub mod ServesGrowing
pub mod Fold
pub mod Inner
