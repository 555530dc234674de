-- A line taken from an input that comes in parts, and what the functions of this crate leave.
pub mod Taking
pub mod Found
pub mod Answers
pub mod Reads
pub mod Inner
pub mod Lines
pub mod Messages
