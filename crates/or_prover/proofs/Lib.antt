-- Laws that the proofs of the functions cite, by topic.
pub mod Tested
pub mod Given
