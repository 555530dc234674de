-- What only contracts of inner functions cite.
pub mod Room
pub mod Row
