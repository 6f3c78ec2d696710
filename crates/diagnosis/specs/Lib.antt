-- Definitions of the diagnosis: the line on loaded values.
pub mod Judged
