-- The law of asking with copies.
pub mod Alone
