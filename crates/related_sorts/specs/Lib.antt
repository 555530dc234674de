-- What the contracts of this crate cite beside the definitions of the unifier.
pub mod Listed
pub mod Arena
pub mod Inner
