-- What the contracts of private functions and the types alone cite: a set that goes with a list
pub mod Members
