-- A problem in words: the kinds of its rows, what a caller gives, and what is packed.
pub mod Kinds
pub mod Inner
