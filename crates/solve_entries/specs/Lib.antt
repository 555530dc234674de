-- What the export's contract cites beside the definitions of the solver's outcome, and what is said of the entry.
pub mod Given
pub mod Says
pub mod Inner
