-- Laws that the proofs of the functions cite, by topic.
pub mod HeldBytes
pub mod Moving
pub mod Found
