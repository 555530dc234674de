-- How rows are found and appended.
pub mod Apart
pub mod Runs
pub mod Rows
pub mod Mixing
pub mod Walk
pub mod Filled
pub mod Stores
pub mod Interned
