-- How the checks on sorts go through rows.
pub mod FirstFour
