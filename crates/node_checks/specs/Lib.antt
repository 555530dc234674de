-- What the contracts of this crate cite beside the checks.
pub mod Inner
