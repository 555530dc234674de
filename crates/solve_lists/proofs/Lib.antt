-- What the reads and writes of the list program come to.
pub mod Runs
pub mod Laws
