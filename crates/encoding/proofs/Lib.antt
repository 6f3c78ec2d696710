-- Laws of encodings: numbers as bytes, replaced bytes, bytes placed one behind the other, and numbers in decimal.
pub mod Bytes
pub mod Words
pub mod Bounds
pub mod Replaced
pub mod Placed
pub mod Fitted
pub mod Text
