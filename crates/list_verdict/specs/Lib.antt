-- What the contracts of this crate cite.
pub mod Words
pub mod Text
pub mod Longest
pub mod Inner
