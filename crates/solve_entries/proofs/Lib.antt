-- The laws of the entry.
pub mod Laws
pub mod EntrySays
pub mod EntryTyping
pub mod Exactly
pub mod Untouched
