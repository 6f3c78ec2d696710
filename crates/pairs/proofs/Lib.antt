-- Laws that the proofs of the functions, and callers, cite.
pub mod LowerNumber
pub mod PairNumber
pub mod PairLoads
