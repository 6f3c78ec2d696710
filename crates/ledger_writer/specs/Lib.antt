-- The lines that are made, and what writing gives.
pub mod Outcome
pub mod Parts
