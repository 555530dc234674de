-- The laws of ends, of the occurs check and of heads and parts, with the premises that the code has at each of its ways.
pub mod Apart
pub mod Shapes
pub mod Ways
pub mod Parts
pub mod Passing
