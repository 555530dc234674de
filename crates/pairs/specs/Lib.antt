-- What the pair program reads and prints.
pub mod Printed
