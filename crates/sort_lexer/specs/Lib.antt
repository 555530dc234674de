-- Tokens with their positions, and what a word says, as the code answers them.
pub mod Inner
