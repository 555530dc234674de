-- What a line comes to, and that what is printed for it has room.
pub mod Ways
pub mod Longest
pub mod Told
