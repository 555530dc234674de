-- What only contracts of inner functions cite.
pub mod Room
pub mod Says
pub mod States
pub mod Cleared
