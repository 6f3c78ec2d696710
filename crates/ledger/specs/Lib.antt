-- The parts of a ledger, and what checking gives.
pub mod Outcome
pub mod Parts
