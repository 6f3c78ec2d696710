-- Definitions of the sheet writer's inner functions.
pub mod Parts
