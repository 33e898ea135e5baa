pub mod Run
pub mod Serial
