-- What only contracts of inner functions cite.
pub mod Lines
pub mod Outcome
pub mod Slices
