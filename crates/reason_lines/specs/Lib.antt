-- Definitions of the reason's line in a slice.
pub mod Short
