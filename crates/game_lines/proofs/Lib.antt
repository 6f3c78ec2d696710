-- Laws that the proofs of the functions cite: the whole text, and the text on long files.
pub mod WholeText
pub mod Front
