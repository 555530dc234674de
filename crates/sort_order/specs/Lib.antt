-- What the contracts of this crate cite beside the definitions of the sorts layer.
pub mod Heads
pub mod Inner
