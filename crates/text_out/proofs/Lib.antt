-- What putting bytes leaves; and texts and numbers, computed.
pub mod Within
pub mod Put
pub mod Outs
pub mod Examples
