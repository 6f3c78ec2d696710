-- Definitions of the refusals' numbers, and of results.
pub mod Number
