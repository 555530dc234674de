-- Texts quoted, numbers in decimal, and bytes put into a buffer.
pub mod Quoted
pub mod Decimal
pub mod Put
pub mod Within
pub mod Outs
