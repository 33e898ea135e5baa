-- What stands here is of private functions alone
pub mod Messages
pub mod Looks
pub mod Parts
pub mod Nodes
