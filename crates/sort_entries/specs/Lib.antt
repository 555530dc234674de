-- What the contracts and laws of this crate cite beside the definitions of the sorts layer.
pub mod Codes
pub mod Packed
pub mod Answered
pub mod Inner
