-- How join and meet go through rows.
pub mod Ways
pub mod Picks
