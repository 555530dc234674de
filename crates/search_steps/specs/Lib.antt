-- What the contracts of this crate cite beside the definitions of the search in memory.
pub mod Inner
