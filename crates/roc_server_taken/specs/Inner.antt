-- What stands here is of private functions alone, or is a law that a type needs
pub mod Over
pub mod Standing
