-- What only contracts of inner functions cite.
pub mod Making
pub mod Resolve
pub mod Term
pub mod Apart
