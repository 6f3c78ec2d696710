-- Laws that the proofs of the functions cite, by topic.
pub mod HighProduct
pub mod Reduction
pub mod Power
pub mod Lanes
pub mod Exponents
pub mod Windows
pub mod Places
pub mod Bounded
