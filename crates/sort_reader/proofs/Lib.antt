-- How a recognised sort is stored, and the codes of the entry.
mod Ways
pub mod Entry
pub mod Codes
pub mod Answered
pub mod Clauses
mod Steps
