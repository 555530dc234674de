-- What only contracts of inner functions cite.
pub mod Placed
pub mod Leaves
pub mod Memory
pub mod Searching
pub mod Solving
pub mod States
