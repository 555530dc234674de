-- The pair program byte by byte, and what the functions of this crate leave.
pub mod ByteByByte
pub mod Held
pub mod HeldIn
pub mod Inner
