-- The laws of answers told, and how long they are.
pub mod Telling
pub mod Longest
pub mod Told
