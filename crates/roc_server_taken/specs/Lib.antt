pub mod Components
pub mod Inner
