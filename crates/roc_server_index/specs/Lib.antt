pub mod GroupRefs
pub mod Inner
