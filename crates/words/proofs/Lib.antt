-- What clearing and copying words leave, and parts of a list of words.
pub mod Stored
pub mod Parts
