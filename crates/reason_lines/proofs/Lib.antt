-- Laws that the proofs of the functions cite: the pieces of a line.
pub mod Pieces
