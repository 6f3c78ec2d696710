-- Definitions of the sheet maker's inner functions.
pub mod Passes
pub mod Rows
