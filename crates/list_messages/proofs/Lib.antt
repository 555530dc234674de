-- The laws of the messages.
pub mod Forms
