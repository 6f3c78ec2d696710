-- What is told of a round.
pub mod Told
