-- What the contract of this crate cites.
pub mod Inner
