-- Laws that the proofs of the functions cite, by topic.
pub mod Any
pub mod BaseRules
pub mod Few
pub mod Kept
pub mod KindOf
