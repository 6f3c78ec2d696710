-- Laws that the proofs of the functions cite, by topic.
pub mod Walk
pub mod FileTest
pub mod Naming
