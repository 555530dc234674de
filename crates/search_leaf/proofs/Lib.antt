-- The laws that the proofs of the code cite.
pub mod Ranks
pub mod Copies
pub mod Readings
pub mod Laws
