-- The search as it stands in memory, and what its code asks for and leaves.
pub mod Inner
