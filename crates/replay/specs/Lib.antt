-- What the contracts of this crate cite.
pub mod Inner
pub mod Said
pub mod Ending
pub mod Reading
pub mod Replays
