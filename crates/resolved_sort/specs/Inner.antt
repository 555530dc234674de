-- What only contracts of inner functions and laws cite.
pub mod Bounds
pub mod Pairs
pub mod Storage
