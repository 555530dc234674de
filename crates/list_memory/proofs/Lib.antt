-- The laws of the list's memory.
pub mod Apart
pub mod Said
