-- Verdicts and sessions in the forms in which they cross to other languages.
pub mod OfFour
pub mod Verdicts
pub mod Provers
pub mod Verifiers
pub mod Calls
pub mod SessionsCross
