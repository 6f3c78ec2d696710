-- Laws that the proofs of the functions cite: a line that is stored, the line on a round, the whole line, and whole files.
pub mod Pieces
pub mod JudgedLine
pub mod WholeLine
pub mod WholeFiles
