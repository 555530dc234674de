-- The laws of what is handed out and cleared.
pub mod Over
pub mod Choosing
pub mod Naming
pub mod TypingRows
pub mod Finishing
pub mod Passed
pub mod Finished
mod Fields
pub mod Codes
pub mod CodeSeven
