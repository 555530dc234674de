-- What only contracts of inner functions cite.
pub mod Calls
pub mod Marks
pub mod Tests
