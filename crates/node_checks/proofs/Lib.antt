-- The checks as the code meets them, test by test.
pub mod Laws
pub mod Settling
pub mod Growing
pub mod Fronts
pub mod Unbound
