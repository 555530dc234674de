-- The laws of writing: of rows, of sizes, of bytes put one after another, of the first failing check, and of document 01's numbers.
pub mod Rows
pub mod Sizes
pub mod Fills
pub mod Texts
pub mod Checks
pub mod Codes
pub mod Front
