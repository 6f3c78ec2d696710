-- The OR proof's verdict and Peggy's session of it in the forms in which they cross to other languages.
pub mod Verdicts
pub mod Provers
pub mod Calls
pub mod OrCrosses
