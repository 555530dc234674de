-- Words, and bits of packed answers.
pub mod Words
pub mod Bits
pub mod Inner
