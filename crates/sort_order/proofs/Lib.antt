-- The laws as the code meets them: premises are the tests and what calls have answered, the conclusion is the definition.
pub mod Heads
pub mod Orders
pub mod Falls
pub mod Distances
pub mod Materializing
pub mod RowsRead
