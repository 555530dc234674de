-- What the reads and writes of the pair program come to.
pub mod Runs
pub mod Written
