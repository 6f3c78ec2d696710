-- Definitions of the shipped pattern file's writer.
pub mod Stored
