-- What the contracts and laws of this crate cite beside the definitions of sort text.
pub mod Codes
pub mod Answered
pub mod Inner
