-- The laws of what entries answer and leave.
pub mod Refusals
pub mod Packing
pub mod SortsLeft
pub mod RanOut
pub mod Clauses
