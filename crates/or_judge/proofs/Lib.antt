-- Laws that the proofs of the functions cite, by topic.
pub mod RoundTests
pub mod Verdicts
