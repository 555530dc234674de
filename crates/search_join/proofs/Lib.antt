-- The laws that the proofs of the code cite.
pub mod Answers
pub mod Lists
pub mod Resolving
pub mod Joining
pub mod Heads
pub mod Agreeing
