-- Each line of an input is taken once; and the laws of what the code leaves.
pub mod Taking
pub mod Exactly
pub mod Examples
pub mod Ways
pub mod Given
pub mod Streams
pub mod Rests
pub mod Reading
