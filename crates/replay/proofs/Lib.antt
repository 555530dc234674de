-- The laws that the proofs of this crate cite. Assumes nothing.
mod Numbers
mod Stores
mod Ending
mod Replaying
pub mod Written
pub mod Reasons
pub mod Calls
