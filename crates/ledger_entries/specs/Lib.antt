-- The parts of entries.
pub mod Parts
