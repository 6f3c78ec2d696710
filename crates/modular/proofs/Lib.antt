-- Laws that the proofs of the functions cite, by topic.
pub mod Euclid
pub mod FirstDivisor
pub mod Candidates
pub mod FirstFailing
pub mod ElementTest
pub mod AllUnits
