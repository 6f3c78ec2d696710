-- A watch of its parts.
pub mod Parts
