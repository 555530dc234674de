-- The laws of packing a problem, and of the kinds of its constraints.
pub mod Said
pub mod Packing
pub mod Wholes
