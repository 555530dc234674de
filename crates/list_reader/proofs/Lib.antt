-- The laws that the proofs of this crate cite. Assumes nothing.
pub mod Rows
pub mod Examples
pub mod Stages
pub mod Kept
