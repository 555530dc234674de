-- What only contracts of inner functions cite.
pub mod Listed
pub mod RowsLent
