-- Recorded lines about sorts.
pub mod Inner
