-- Laws of the forms in which the OR proof's verdict and session cross.
pub mod OrJudgements
pub mod OrCrossing
pub mod HeldSide
pub mod OrCrosses
