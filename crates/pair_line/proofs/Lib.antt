-- The laws of the pair program, and how its code goes.
pub mod FixedSix
pub mod Grows
pub mod Bounds
pub mod Lines
pub mod LineRead
pub mod Answer
pub mod Ways
pub mod Rooms
pub mod PairLength
pub mod Examples
