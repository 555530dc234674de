-- What the contracts of this crate cite beside the definitions of the unifier.
pub mod Unifier
pub mod OnTrail
pub mod Inner
