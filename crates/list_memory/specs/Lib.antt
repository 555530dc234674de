-- A list as it is being read.
pub mod Memory
pub mod Layouts
