-- Sort text, in the order of document 01, and room for the sorts of two lines.
pub mod Tokens
pub mod Grammar
pub mod CannotFollow
pub mod Parse
pub mod Readable
pub mod Text
pub mod Reading
pub mod Postfix
pub mod Writing
pub mod PairRoom
