-- How ids of rows are kept, where an entry stands in a rising list, and laws that the types need: no contract that a caller reads needs them
pub mod Shape
pub mod Place
pub mod Keys
