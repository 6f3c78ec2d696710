-- Peggy against Vic.
pub mod GameCalls
pub mod Slots
pub mod Game
pub mod Refusals
pub mod Text
pub mod Prints
pub mod RunsWhere
pub mod Corollaries
pub mod Same
pub mod Ours
