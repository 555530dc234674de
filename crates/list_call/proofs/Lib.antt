-- The laws of asking about a list.
pub mod Lists
pub mod Asked
pub mod CountsTold
