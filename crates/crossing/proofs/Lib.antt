-- Laws of the forms in which verdicts and sessions cross.
pub mod Phases
pub mod HandedBack
pub mod Judgements
pub mod ProverCrossing
pub mod SavedCrossing
pub mod VerifierCrossing
pub mod SessionsCross
