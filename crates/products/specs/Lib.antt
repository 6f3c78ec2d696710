-- A prover that is split over a team, and rounds that multiply.
pub mod TeamCalls
pub mod Team
pub mod Refusals
pub mod Players
pub mod TeamWorks
pub mod RoundsMultiply
pub mod RunsWhere
pub mod Corollaries
pub mod Same
pub mod Ours
