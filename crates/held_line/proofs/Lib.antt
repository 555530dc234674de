-- What holding a byte leaves of the line and the memory, the lines of an input byte by byte, and both computed.
pub mod Held
pub mod Glued
pub mod Examples
