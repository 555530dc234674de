-- The laws that the proofs of the code cite.
pub mod Passed
