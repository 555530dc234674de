-- What only contracts of inner functions cite.
pub mod Begin
pub mod Counts
pub mod Finish
pub mod Handing
pub mod Written
