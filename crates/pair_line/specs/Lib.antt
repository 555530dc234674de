-- The pair program, and what the contracts of this crate cite.
pub mod PairProgram
pub mod Answers
pub mod Room
pub mod Inner
