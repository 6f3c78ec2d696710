-- Laws that the proofs of the functions cite: the words of a mask's rows one by one.
pub mod RowByRow
