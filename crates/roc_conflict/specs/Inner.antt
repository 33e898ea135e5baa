-- What the contracts of private functions alone cite: membership in a list of pieces, and marks on pieces
pub mod Found
pub mod Marks
pub mod Gathered
