-- What the functions of this crate ask for and answer.
pub mod Inner
