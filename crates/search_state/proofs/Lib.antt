-- The laws of the search in memory.
pub mod Parts
pub mod After
pub mod Ways
pub mod Solving
