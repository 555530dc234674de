-- What the contracts of this crate cite beside the definitions of sort text.
pub mod Packed
pub mod Inner
