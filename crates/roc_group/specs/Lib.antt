pub mod Accesses
pub mod GroupRun
pub mod Outputs
pub mod Inner
