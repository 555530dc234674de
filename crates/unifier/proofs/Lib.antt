-- The laws of a try: what it leaves, one step after another, and which step each way of the code is.
pub mod Words
pub mod Tries
pub mod Steps
pub mod TrailVariables
pub mod Bound
pub mod Clauses
