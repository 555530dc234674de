-- The laws of a list of records as words, steps of walks by hand, that records past the ceiling change nothing, and what is said of the entry.
pub mod Unpacked
pub mod Again
pub mod Frames
pub mod Arrays
pub mod PastCeiling
pub mod RecordsSay
