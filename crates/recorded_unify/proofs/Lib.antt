-- How a recorded line about unify is asked again.
pub mod Judging
