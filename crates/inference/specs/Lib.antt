-- The solver, in the order of document 01; then what its laws speak of.
pub mod Constraints
pub mod Kinds
pub mod Measure
pub mod Search
pub mod Names
pub mod SolveChecks
pub mod Rising
pub mod SolveEntry
pub mod Situations
pub mod Typing
pub mod Components
pub mod Explained
pub mod Named
pub mod Leaves
pub mod ListsLeft
pub mod OutputsLeft
pub mod Inner
