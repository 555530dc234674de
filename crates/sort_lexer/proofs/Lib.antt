-- How tokens are found in a line.
pub mod Places
pub mod RunEnd
pub mod Tokens
pub mod Words
pub mod Lexemes
pub mod Tags
pub mod Examples
