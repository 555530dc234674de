-- The laws that the proofs of the code cite.
pub mod Laws
pub mod Literals
pub mod Trying
pub mod Attempt
