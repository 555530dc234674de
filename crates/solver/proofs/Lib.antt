-- The laws of the search's code.
pub mod Ways
pub mod Widening
pub mod Literals
pub mod Readings
pub mod Overloads
pub mod Joins
pub mod Solving
pub mod Structs
pub mod Told
