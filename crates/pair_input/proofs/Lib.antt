-- Byte by byte the program prints what its definition over the whole input says; and the laws of what the code leaves.
pub mod Exactly
pub mod Ways
pub mod Determined
