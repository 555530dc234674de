-- The laws that the proofs of this crate cite. Assumes nothing.
pub mod Places
pub mod Digits
pub mod Reading
pub mod Examples
pub mod Spelled
pub mod AllWords
pub mod Numbers
