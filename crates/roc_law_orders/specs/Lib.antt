pub mod Behaviour
pub mod Runs
pub mod Orders
pub mod Growth
pub mod Counter
