-- What the contracts of private functions alone cite: what comes of a program, sets of pieces, and the pieces that use each column
pub mod Judged
pub mod PieceSets
pub mod Users
