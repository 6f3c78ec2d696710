-- Definitions that the contracts cite.
pub mod Rules
pub mod Coefficients
