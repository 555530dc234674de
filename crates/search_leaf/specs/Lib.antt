-- What the functions at a leaf ask for and leave.
pub mod Inner
