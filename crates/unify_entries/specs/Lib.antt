-- What is said of the entry unify.
pub mod Codes
pub mod Packed
pub mod Left
