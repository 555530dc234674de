-- Overload records, as words, and the call of a problem with them.
pub mod Records
pub mod Call
pub mod Inner
