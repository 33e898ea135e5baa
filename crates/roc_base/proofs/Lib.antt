pub mod Ids
pub mod Nodes
pub mod Rising
pub mod Union
pub mod Joined
pub mod Members
pub mod Place
