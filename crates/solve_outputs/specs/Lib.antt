-- What the solver hands out, step by step.
pub mod Finish
pub mod Handout
pub mod Packed
pub mod Inner
