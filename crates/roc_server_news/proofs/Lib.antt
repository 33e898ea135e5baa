pub mod FollowedLinks
pub mod Learnable
pub mod Learning
mod NewsOfFacts
pub mod NotOfNews
mod ToldFacts
