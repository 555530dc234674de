-- The laws that the proofs of this crate cite. Assumes nothing.
mod Asking
mod Compares
