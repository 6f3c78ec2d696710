-- Laws that the proofs of the functions cite, by topic.
pub mod Opening
pub mod Hearing
pub mod Answering
