-- Peggy's calls by the parts of her session.
pub mod Entries
pub mod Parts
