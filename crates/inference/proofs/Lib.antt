-- The laws of the solver's search.
-- lists and checks: what is in a list, and what the checks of a call give
pub mod NoKinds
pub mod Members
pub mod RowsLent
pub mod Accepted
-- what holds all through a search, kept by every constraint in turn and by the leaf
pub mod Invariant
pub mod MakingSorts
pub mod Tries
pub mod Widening
pub mod Alternatives
pub mod Joining
pub mod Leaf
pub mod Steps
-- what a call leaves: a typing that holds together, sorts that only grow
pub mod Rising
pub mod HandedOut
pub mod Together
pub mod PlacesHave
pub mod Clauses
pub mod Costs
pub mod NoConstraints
pub mod ListsLeft
pub mod OutputsLeft
pub mod RowsPast
-- the leaves that are met: the order of measures, the verdict, choices and names
pub mod Measures
pub mod Looked
pub mod Forgets
pub mod Branches
pub mod LeavesMet
pub mod Choices
-- the statements, each read alone
pub mod Statements
pub mod IndexWords
-- computed: the starred situations, and lists with their answers
pub mod Situations
pub mod Compared
