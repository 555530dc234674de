-- What only contracts of inner functions cite.
pub mod Outcome
pub mod Ranges
