-- Laws that the proofs of the functions cite: the level, the whole text, and the text on long files.
pub mod AtLevel
pub mod WholeText
pub mod Front
