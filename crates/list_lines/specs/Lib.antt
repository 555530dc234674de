-- What the list program prints.
pub mod Lines
pub mod Longest
