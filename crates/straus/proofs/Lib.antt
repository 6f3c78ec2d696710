-- Laws that the proofs of the functions cite, by topic.
pub mod Exponents
pub mod Columns
pub mod Straus
pub mod Tables
