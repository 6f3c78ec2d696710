-- The search of the game.
pub mod Small
pub mod Match
pub mod Prepared
