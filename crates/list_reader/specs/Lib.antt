-- A line of the text format, taken into a list.
pub mod Taking
pub mod Inner
