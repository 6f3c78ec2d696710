-- Definitions of the marker's lines on loaded values.
pub mod Lines
