-- The definitions of the sorts layer, in the order of document 01.
pub mod Tree
pub mod Order
pub mod Exact
pub mod Reference
pub mod Interning
pub mod Storage
pub mod Checks
pub mod Entries
pub mod Rows
pub mod Bounds
pub mod Index
pub mod JoinMeet
pub mod Growing
pub mod Inner
