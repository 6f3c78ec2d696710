-- Definitions that the contracts name.
pub mod Reciprocal
pub mod Places
