-- What entries answer and leave.
pub mod Packing
pub mod SortsLeft
