-- Laws that the proofs of the functions cite: the lines challenge by challenge.
pub mod LineByLine
