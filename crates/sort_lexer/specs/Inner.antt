-- What only contracts of inner functions cite.
pub mod Lexeme
pub mod Meant
