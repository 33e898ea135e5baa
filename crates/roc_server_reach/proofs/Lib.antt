pub mod Numbers
mod WordBits
mod StaleBits
mod RowWords
mod Searches
pub mod Chains
pub mod Rises
mod Put
mod Fronts
mod TakenIn
pub mod LeastOf
