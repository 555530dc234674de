-- How a line is recognised.
pub mod Ways
pub mod States
pub mod Cleared
