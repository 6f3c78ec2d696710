-- Definitions of the linear maker's inner functions.
pub mod Plan
