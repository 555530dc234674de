-- The laws of the entries of the sorts layer.
pub mod Laws
pub mod Codes
pub mod Answered
pub mod Packed
pub mod Fields
pub mod Clauses
pub mod PutBack
