-- What the list program prints for an input.
pub mod Printed
