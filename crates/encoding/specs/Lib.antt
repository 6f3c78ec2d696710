-- Definitions of encodings: numbers as bytes, bytes placed in a slice, and text.
pub mod Bytes
pub mod Placed
pub mod Text
