-- Laws that the proofs of the functions cite, by topic.
pub mod RoundsTests
pub mod Witnesses
