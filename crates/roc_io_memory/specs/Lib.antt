pub mod Callers
pub mod Calls
pub mod Files
pub mod Link
pub mod Inner
pub mod Sink
pub mod Spawner
