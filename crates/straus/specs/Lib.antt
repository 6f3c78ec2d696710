-- Definitions that the contracts name.
pub mod MultiPowers
pub mod Choices
