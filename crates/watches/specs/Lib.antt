-- A watch for used nonces.
pub mod Window
pub mod Watch
pub mod WatchCalls
pub mod Heard
pub mod Refusals
pub mod WatchesNonces
pub mod RunsWhere
pub mod Corollaries
pub mod Same
pub mod Ours
