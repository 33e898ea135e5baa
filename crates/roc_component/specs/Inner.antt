-- What the contracts of private functions alone cite: the lists of a set of transactions, what comes before what, the search for components, and turns
pub mod Within
pub mod Before
pub mod Search
pub mod Turns
pub mod Queue
