-- The checks as the code meets them, test by test.
pub mod Quotients
pub mod Fine
pub mod Lent
pub mod RowsLeft
pub mod Fresh
pub mod Testing
pub mod Ceilings
pub mod LastTests
