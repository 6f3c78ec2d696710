-- Definitions of lists: places by index, lists of n numbers that satisfy a predicate, members, and choices.
pub mod Places
pub mod Each
pub mod Member
pub mod Choices
