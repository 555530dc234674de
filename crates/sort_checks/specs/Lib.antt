-- What the checks on sorts cite.
pub mod Inner
