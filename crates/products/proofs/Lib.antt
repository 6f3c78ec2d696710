-- Laws of a prover that is split over a team, and of rounds that multiply.
pub mod Combined
pub mod TeamRefusals
pub mod TeamAnswers
pub mod PlayerSheets
pub mod Whole
pub mod Single
pub mod TeamWorks
pub mod RoundsMultiply
pub mod RunsWhere
pub mod Only
