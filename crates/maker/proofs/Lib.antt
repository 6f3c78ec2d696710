-- Laws that the proofs of the functions cite, by topic.
pub mod RowDigits
pub mod Answers
