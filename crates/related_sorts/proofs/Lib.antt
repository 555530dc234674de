-- The laws that the proofs of the code cite.
pub mod Numbers
pub mod Laws
pub mod Ends
pub mod Ranges
pub mod Lent
pub mod InArena
