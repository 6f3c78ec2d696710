-- Laws of the sheet writer.
pub mod Parts
pub mod Answers
