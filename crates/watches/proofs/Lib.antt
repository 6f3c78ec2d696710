-- A watch for used nonces: laws.
pub mod Bytes
pub mod Window
pub mod Named
pub mod Call
pub mod WatchRefusals
pub mod Judged
pub mod WatchAnswers
pub mod WatchesNonces
pub mod RunsWhere
pub mod Corollaries
pub mod Only
