-- What a line of a list gives, in the order of docs/FORMAT.md.
pub mod Items
pub mod Plans
pub mod Lines
