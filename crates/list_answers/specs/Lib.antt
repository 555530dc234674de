-- What the contracts of this crate cite.
pub mod Answer
pub mod Longest
pub mod Inner
