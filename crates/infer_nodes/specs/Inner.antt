-- What only contracts of inner functions cite.
pub mod Bound
pub mod Parts
