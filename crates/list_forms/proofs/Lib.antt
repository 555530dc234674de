-- The laws that the proofs of this crate cite. Assumes nothing.
pub mod Fitting
pub mod Examples
pub mod Places
