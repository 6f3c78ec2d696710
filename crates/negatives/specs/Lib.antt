-- Definitions that the contracts name.
pub mod Negative
