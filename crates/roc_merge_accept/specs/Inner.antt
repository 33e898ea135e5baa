-- What the tests of groups find on their way: no contract that a caller reads needs it
pub mod Uses
pub mod Tests
pub mod Paths
