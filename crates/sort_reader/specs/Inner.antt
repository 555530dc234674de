-- What only contracts of inner functions cite.
pub mod Run
pub mod Tested
