-- The words of a line of the text format.
pub mod Words
pub mod Tokens
