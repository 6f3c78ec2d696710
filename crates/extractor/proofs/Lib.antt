-- Laws that the proofs of the functions cite, by topic.
pub mod Slots
pub mod Coefficients
pub mod Extracting
