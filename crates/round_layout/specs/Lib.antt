-- What the functions on records ask of a width.
pub mod Width
