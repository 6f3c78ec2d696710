-- Laws that the proofs of the functions cite: the rounds' lines one by one.
pub mod LineByLine
