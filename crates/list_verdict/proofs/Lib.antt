-- The laws of text put into a buffer as far as it has room.
pub mod Pieces
pub mod Ways
pub mod Rows
pub mod Targets
pub mod Longest
pub mod Told
