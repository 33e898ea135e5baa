-- What the contracts of private functions alone cite: what pieces use, where it follows from the names as each begins
pub mod Steady
