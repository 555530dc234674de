-- What the contracts of this crate cite beside the definitions of the search and of its state.
pub mod Inner
