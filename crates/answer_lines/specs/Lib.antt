-- Definitions of the game's lines, challenge by challenge.
pub mod Lines
