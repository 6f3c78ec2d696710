-- Definitions of the tests of a pattern file.
pub mod Walk
pub mod Naming
