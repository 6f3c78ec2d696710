-- The OR proof over two sheets.
pub mod OrCalls
pub mod Round
pub mod Judge
pub mod Extractor
pub mod Prover
pub mod Refusals
pub mod Calls
pub mod Knowledge
pub mod OneOfTwo
pub mod RunsWhere
pub mod Corollaries
pub mod Same
pub mod Ours
