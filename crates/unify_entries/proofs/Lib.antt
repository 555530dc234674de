-- The laws that the proofs of the code cite, and the laws about the entry itself.
pub mod Laws
pub mod EntryRobinson
pub mod Codes
pub mod CodeSeven
pub mod Clauses
