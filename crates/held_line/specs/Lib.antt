-- The lines of an input, and a line held as its bytes come.
pub mod Lines
pub mod Holding
